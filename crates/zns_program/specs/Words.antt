-- The words that the program gets from its arguments.
use Rattle.std.specs.Prelude.{◌≡◌, ◌≢◌, ℕ, List, [], map, drop, Vec, Result, Ok, Err, ⊤}
use Rattle.std.specs.String.{string_bytes}
use Rattle.std.specs.Vec.Iter.{into_iter_items}
use Rattle.std.specs.IoError.{error_kind}
use Rattle.std.specs.declared.vec.IntoIter.{IntoIter}
use Rattle.std.specs.declared.io.Error.{Error}
use Rattle.std.specs.declared.io.ErrorKind.TheVariants as kind
use Rattle.std.specs.declared.string.String.{String}
use Rattle.zns_io.specs.declared.no_memory.NoMemory.{NoMemory}

-- the texts after the first one, which is the program's name
abbrev pub after_name : {Z : Type 0} → IntoIter (String Z) Z → List (List ℕ)
after_name args = map string_bytes (drop 1 (into_iter_items args))

-- If the arguments are texts, the words are those after the name, unless memory runs out. If there is an error instead, the result is out
-- of memory exactly if the error is, and else there are no words.
abbrev pub AreWordsOf : {Z : Type 0} → Result (IntoIter (String Z) Z) Error → Result (Vec (List ℕ) Z) NoMemory → Type 0
AreWordsOf (Ok args) (Ok words) = words.items ≡ after_name args
AreWordsOf (Ok args) (Err _) = ⊤
AreWordsOf (Err error) (Ok words) = (error_kind error ≢ kind.OutOfMemory) × (words.items ≡ [])
AreWordsOf (Err error) (Err _) = error_kind error ≡ kind.OutOfMemory
