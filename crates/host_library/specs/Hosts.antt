-- The view of a host, what is true of every host, and what the calls that fill its ring do.
use Rattle.std.specs.Prelude.{◌≡◌, ℕ, ◌+◌, ◌%◌, ◌^◌, ◌<◌, ◌≤◌, Bool, ◌==◌, true, if◌then◌else◌, List, [], ◌∷◌, ◌++◌, length, All, slice_index_or, replicate, Option, Some, Result, Ok, Err}
use Rattle.zns_types.specs.declared.fields.GeometryFields.{GeometryFields}
use Rattle.sqe_codec.specs.declared.cmd.Cmd.{Cmd}
use Rattle.zone_model.specs.declared.act.Act.{Act}
use Rattle.zone_model.specs.Answers.{answered}
use Rattle.host_library.specs.declared.shadow.Shadow.{Shadow}
use Rattle.host_library.specs.declared.host_err.HostErr.{HostErr}
use Rattle.host_library.specs.declared.host_err.HostErr.TheVariants as error
use Rattle.host_library.specs.Shadows.{unknown, is_known, IsShadow, drive_shadow}
use Rattle.host_library.specs.Asking.{IsAsked, act_for}

-- A host's link, the geometry of the link's drive, the commands that wait to be sent, the oldest first, the number of the next command, and
-- a shadow for each zone.
pub record Hosted (L : Type 0) : Type 0 where
  pub link : L
  pub geometry : GeometryFields
  pub ring : List Act
  pub next : ℕ
  pub shadows : List Shadow

-- a zone's shadow
abbrev pub shadow_in : List Shadow → ℕ → Shadow
shadow_in shadows z = slice_index_or shadows z unknown

-- a shadow is unknown, or is that of the drive's zone
abbrev pub IsTrueShadow : GeometryFields → List Act → ℕ → Shadow → Type 0
IsTrueShadow g acts z s = is_known s.stage ≡ true → s ≡ drive_shadow g (answered g acts) z

-- there is a shadow for each zone
pub record HasShadows (g : GeometryFields) (shadows : List Shadow) : Type 0 where
  pub len : length shadows ≡ g.zones
  pub each : (z : ℕ) → z < g.zones → IsShadow g (shadow_in shadows z)

-- each known shadow is the drive's
abbrev pub AreTrue : GeometryFields → Option (List Act) → List Shadow → Type 0
AreTrue g told shadows = (acts : List Act) → told ≡ Some acts → (z : ℕ) → z < g.zones → IsTrueShadow g acts z (shadow_in shadows z)

-- What is true of every host: it has the link's geometry, its ring has room for as many commands as a queue has entries, and each command
-- there is one of a host.
pub record HostStands (linked : GeometryFields) (told : Option (List Act)) (g : GeometryFields) (ring : List Act) (room : ℕ) (shadows : List Shadow) : Type 0 where
  pub geometry : linked ≡ g
  pub queues : 2 ≤ g.queues
  pub depth : room ≡ g.depth
  pub fits : length ring ≤ room
  pub asked : All (IsAsked g) ring
  pub whole : HasShadows g shadows
  pub known : AreTrue g told shadows

-- the number of the command after the one with a number
abbrev pub next_number : ℕ → ℕ
next_number n = (n + 1) % 2 ^ 16

-- ---- a new host

module _ {L : Type 0} where
  abbrev pub new_host : L → GeometryFields → Hosted L
  new_host link g = record { link = link; geometry = g; ring = []; next = 0; shadows = replicate g.zones unknown }

  -- ---- putting a command into the ring

  -- as many commands wait as a queue has entries
  abbrev pub is_full : Hosted L → Bool
  is_full h = length h.ring == h.geometry.depth

  -- The ring is full, and the host data comes back; or the command is put at the ring's back and gets the next number.
  abbrev pub put_gives : Hosted L → List ℕ → Result ℕ HostErr
  put_gives h payload = if is_full h then Err (error.RingFull payload) else Ok h.next

  -- the host with one more command at its ring's back, if there is room
  abbrev pub after_put : Hosted L → Cmd → List ℕ → Hosted L
  after_put h k payload = record h {
    ring = if is_full h then h.ring else h.ring ++ act_for k h.next payload ∷ [];
    next = if is_full h then h.next else next_number h.next;
  }
