-- The acts that are made one after another are a session.
use Rattle.std.proofs.Common.{◌≡◌, ℕ, zero, suc, ◌+◌, ◌-◌, ◌*◌, ◌<◌, ◌≤◌, List, [], ◌∷◌, ◌++◌, length, All, refl, sym, ap, ◌∙◌, arith}
use Rattle.std.proofs.lemmas.List.{append_assoc}
use Rattle.std.proofs.lemmas.List.Elements.{All-head, All-tail}
use Rattle.zns_types.specs.Geometry.{IsGeometry}
use Rattle.zone_model.specs.declared.act.Act.{Act}
use Rattle.zone_model.specs.Sessions.{IsSession, HasWidths, sent_bytes, asked_bytes}
use Rattle.zns_program.specs.Generating.{made_geometry, nth_next, made_act, made_acts, IsOneBlock}

pub made_geometry-is_geometry : IsGeometry made_geometry
made_geometry-is_geometry = record {
  units = record { block_exp = refl; mdts = omega arith; zasl = omega arith; flags = omega arith };
  zones = record { some_zones = omega arith; few_zones = omega arith; zone_size = omega arith; namespace = omega arith; some_capacity = omega arith; capacity = omega arith };
  windows = record {
    no_granule = λ none. absurd (omega arith);
    no_window = λ none. absurd (omega arith);
    granules = λ some. record { granule = omega arith; capacity = refl; window = refl; some_window = omega arith; window_fits = omega arith };
  };
  queues = record { some_queues = omega arith; few_queues = omega arith; some_depth = omega arith; small_depth = omega arith };
}

made_geometry-has_widths : HasWidths made_geometry
made_geometry-has_widths = record { active_limit = omega arith; open_limit = omega arith; windows = omega arith; granule = omega arith; window = omega arith }

-- ---- one act more

-- one more act was made, and the rest is made from the next state
pub one_more : (count i x : ℕ) (all acts : List Act) → i < count → all ≡ acts ++ made_acts (count - i) i x → all ≡ (acts ++ made_act i x ∷ []) ++ made_acts (count - (i + 1)) (i + 1) (nth_next 4 x)
one_more count i x all acts lt e =
    let left : count - i ≡ suc (count - (i + 1)) = omega arith in
    e
    ∙ ap (λ (n : ℕ). acts ++ made_acts n i x) left
    ∙ sym (append_assoc acts (made_act i x ∷ []) (made_acts (count - (i + 1)) (i + 1) (nth_next 4 x)))

length-made_acts : (count number x : ℕ) → length (made_acts count number x) ≡ count
length-made_acts zero number x = refl
length-made_acts (suc count) number x = ap suc (length-made_acts count (number + 1) (nth_next 4 x))

-- ---- how much they move

sent-le : (acts : List Act) → All IsOneBlock acts → sent_bytes acts ≤ 512 * length acts
sent-le [] all = omega arith
sent-le (a ∷ acts) all = omega (arith, sent-le acts (All-tail IsOneBlock a acts all), (All-head IsOneBlock a acts all).one_block.sent, (All-head IsOneBlock a acts all).act.payload)

asked-le : (acts : List Act) → All IsOneBlock acts → asked_bytes made_geometry acts ≤ 512 * length acts
asked-le [] all = omega arith
asked-le (a ∷ acts) all = omega (arith, asked-le acts (All-tail IsOneBlock a acts all), (All-head IsOneBlock a acts all).one_block.asked)

pub made-is_session : (count number : ℕ) (acts : List Act) → count ≤ 262144 → acts ≡ made_acts count 0 number → All IsOneBlock acts → IsSession (record { geometry = made_geometry; acts = acts })
made-is_session count number acts few e all =
    let len : length acts ≡ count = ap length e ∙ length-made_acts count 0 number in
    record {
      geometry = made_geometry-is_geometry;
      widths = made_geometry-has_widths;
      count = omega arith;
      acts = λ k d lt. (all k d lt).act;
      sent = omega (arith, sent-le acts all);
      asked = omega (arith, asked-le acts all);
    }
