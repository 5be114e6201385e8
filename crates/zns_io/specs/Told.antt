-- The bytes that a source or a sink tells.
use Rattle.std.specs.Prelude.{◌≡◌, List, ℕ, ◌++◌, Option, Some, None, ⊤}

-- If a sink tells its bytes now, it told them before too, and has gained these bytes since.
abbrev pub Gains : Option (List ℕ) → Option (List ℕ) → List ℕ → Type 0
Gains before None bytes = ⊤
Gains None (Some now) bytes = ⊥
Gains (Some before) (Some now) bytes = now ≡ before ++ bytes
