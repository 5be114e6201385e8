-- The commands in a host's ring.
use Rattle.std.proofs.Common.{◌≡◌, ℕ, zero, suc, ◌<◌, ◌≤◌, false, List, [], ◌∷◌, ◌++◌, length, drop, Option, Some, None, refl, ◌∙◌, subst, arith, length-append, length-drop}
use Rattle.std.specs.Prelude.{All, slice_get}
use Rattle.std.proofs.lemmas.List.Elements.{All-append, All-drop}
use Rattle.zns_types.specs.declared.fields.GeometryFields.{GeometryFields}
use Rattle.sqe_codec.specs.declared.cmd.Cmd.{Cmd}
use Rattle.sqe_codec.specs.Commands.{command}
use Rattle.sqe_codec.specs.Writing.{is_admin}
use Rattle.zone_model.specs.declared.act.Act.{Act}
use Rattle.zone_model.specs.Places.{command_of}
use Rattle.solo_drive.specs.Drives.{HasLengths}
use Rattle.host_library.specs.declared.shadow.Shadow.{Shadow}
use Rattle.host_library.specs.Asking.{IsCommand, IsAsked}
use Rattle.host_library.specs.Hosts.{HasShadows, AreTrue, HostStands}
use Rattle.host_library.proofs.Asked.{asked-admin}

-- an act whose entry spells a command of a host is one of a host
pub asked-act : (g : GeometryFields) (k : Cmd) (a : Act) → IsCommand g k a.payload → a.queue ≡ 1 → command (is_admin k) a.sqe.bytes ≡ k → IsAsked g a
asked-act g k a asks queue e =
    let io : command false a.sqe.bytes ≡ k = rw (asked-admin g k asks.kind) at e in
    let is : command_of a ≡ k = rw queue io in
    record {
      queue = queue;
      lengths = record { payload = rw is asks.transfer; reply = rw is asks.reply };
      kind = rw is asks.kind;
    }

one_asked : (g : GeometryFields) (a : Act) → IsAsked g a → All (IsAsked g) (a ∷ [])
one_asked g a asked zero d lt = asked
one_asked g a asked (suc k) d lt = absurd (omega arith)

-- ---- a host

-- a host with one more command in its ring
pub stands-put : (linked : GeometryFields) (told : Option (List Act)) (g : GeometryFields) (ring : List Act) (room : ℕ) (shadows : List Shadow) (a : Act) → HostStands linked told g ring room shadows → length ring < room → IsAsked g a
    → HostStands linked told g (ring ++ a ∷ []) room shadows
stands-put linked told g ring room shadows a s lt asked = record {
  geometry = s.geometry;
  queues = s.queues;
  depth = s.depth;
  fits = omega (arith, length-append ring (a ∷ []));
  asked = All-append (IsAsked g) ring (a ∷ []) s.asked (one_asked g a asked);
  whole = s.whole;
  known = s.known;
}

-- a host whose oldest command was taken
pub stands-taken : (linked : GeometryFields) (told : Option (List Act)) (g : GeometryFields) (ring : List Act) (room : ℕ) (shadows : List Shadow) → HostStands linked told g ring room shadows
    → HostStands linked told g (drop 1 ring) room shadows
stands-taken linked told g ring room shadows s = record {
  geometry = s.geometry;
  queues = s.queues;
  depth = s.depth;
  fits = omega (arith, length-drop 1 ring);
  asked = All-drop (IsAsked g) 1 ring s.asked;
  whole = s.whole;
  known = s.known;
}

-- a host after its link was used
pub stands-used : (linked now : GeometryFields) (told after : Option (List Act)) (g : GeometryFields) (ring : List Act) (room : ℕ) (shadows new : List Shadow) → HostStands linked told g ring room shadows → now ≡ linked
    → HasShadows g new → AreTrue g after new → HostStands now after g ring room new
stands-used linked now told after g ring room shadows new s same whole known = record {
  geometry = same ∙ s.geometry;
  queues = s.queues;
  depth = s.depth;
  fits = s.fits;
  asked = s.asked;
  whole = whole;
  known = known;
}

-- ---- the oldest command

pub oldest : {X : Type 0} (xs : List X) (x : X) → Some x ≡ slice_get xs 0 → xs ≡ x ∷ drop 1 xs
oldest [] x e = absurd (cc e)
oldest (y ∷ ys) x e = let same : x ≡ y = cc in rw same refl

pub none_oldest : {X : Type 0} (xs : List X) → None ≡ slice_get xs 0 → xs ≡ []
none_oldest [] e = refl
none_oldest (y ∷ ys) e = absurd (cc e)

pub oldest-asked : (g : GeometryFields) (ring : List Act) (a : Act) → Some a ≡ slice_get ring 0 → All (IsAsked g) ring → IsAsked g a
oldest-asked g [] a e all = absurd (cc e)
oldest-asked g (b ∷ ring) a e all = let same : b ≡ a = cc in subst (IsAsked g) same (all 0 b (omega arith))

-- its lengths, in at least the room that a report needs
pub asked-lengths : (linked g : GeometryFields) (a : Act) (room : ℕ) → linked ≡ g → IsAsked g a → 128 ≤ room → HasLengths linked a room
asked-lengths linked g a room same asked le = rw same (record { payload = asked.lengths.payload; reply = let few = asked.lengths.reply in omega arith })
