-- What a loop has appended, with one more piece.
use Rattle.std.proofs.Common.{arith, ◌≡◌, ℕ, zero, suc, ◌≤◌, ◌+◌, ◌<◌, List, [], ◌∷◌, ◌++◌, length, take, get_or, codes, sym, ap, ◌∙◌}
use Rattle.std.proofs.lemmas.List.{append_assoc, flat_map_more, take_more, map_more, length-map}
use Rattle.std.specs.List.{flat_map}
use Rattle.byteorder.specs.Endian.{little_bytes}
use Rattle.zone_model.specs.declared.act.Act.{Act}
use Rattle.zone_model.specs.Sessions.{own_order, order_bytes, sent_bytes}

-- with the bytes of one more item
pub appended-more : {X : Type 0} (f : X → List ℕ) (xs : List X) (i : ℕ) (d : X) (start file : List ℕ) → i < length xs → file ≡ start ++ flat_map f (take i xs) → file ++ f (get_or xs i d) ≡ start ++ flat_map f (take (i + 1) xs)
appended-more f xs i d start file h e =
    ap (λ (b : List ℕ). b ++ f (get_or xs i d)) e ∙ flat_map_more f start (take i xs) (get_or xs i d)
    ∙ ap (λ (ys : List _). start ++ flat_map f ys) (sym (take_more xs i d h))

-- an act, where one has to be named
pub some_act : Act
some_act = record { queue = 0; sqe = record { bytes = [] }; payload = [] }

-- with the queue of one more act
pub queues-more : (acts : List Act) (i queue : ℕ) (start file : List ℕ) → i < length acts → queue ≡ (get_or acts i some_act).queue → file ≡ start ++ flat_map (little_bytes 2) (own_order (take i acts)) → file ++ little_bytes 2 queue ≡ start ++ flat_map (little_bytes 2) (own_order (take (i + 1) acts))
queues-more acts i queue start file h q e =
    ap (λ (b : List ℕ). b ++ little_bytes 2 queue) e
    ∙ flat_map_more (little_bytes 2) start (own_order (take i acts)) queue
    ∙ ap (λ k. start ++ flat_map (little_bytes 2) (own_order (take i acts) ++ k ∷ [])) q
    ∙ ap (λ (ks : List ℕ). start ++ flat_map (little_bytes 2) ks) (sym (map_more (λ a. a.queue) acts i some_act h))

three_parts : (file a b c : List ℕ) → ((file ++ a) ++ b) ++ c ≡ file ++ ((a ++ b) ++ c)
three_parts file a b c = simp append_assoc

-- the front of a result: there are as many acts as queues of acts
pub order_put : (file : List ℕ) (acts : List Act) → ((file ++ codes "ZNSR0001") ++ little_bytes 4 (length acts)) ++ flat_map (little_bytes 2) (own_order acts) ≡ file ++ order_bytes (own_order acts)
order_put file acts =
    three_parts file (codes "ZNSR0001") (little_bytes 4 (length acts)) (flat_map (little_bytes 2) (own_order acts))
    ∙ ap (λ n. file ++ ((codes "ZNSR0001" ++ little_bytes 4 n) ++ flat_map (little_bytes 2) (own_order acts))) (sym (length-map acts (λ a. a.queue)))

-- no act's host data is longer than that of all acts together
pub one_of_sent : (acts : List Act) (k : ℕ) (d : Act) → k < length acts → length (get_or acts k d).payload ≤ sent_bytes acts
one_of_sent [] k d h = absurd (omega arith)
one_of_sent (a ∷ acts) zero d h = omega arith
one_of_sent (a ∷ acts) (suc k) d h = let rest : length (get_or acts k d).payload ≤ sent_bytes acts = one_of_sent acts k d (omega arith) in omega arith
