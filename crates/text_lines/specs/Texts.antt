-- Lines of text: words with single spaces between them, and a line feed at the end. A word is a list of bytes.
use Rattle.std.specs.Prelude.{ℕ, List, [], ◌∷◌, ◌++◌, codes}

abbrev pub spaced : List (List ℕ) → List ℕ
spaced [] = []
spaced (word ∷ []) = word
spaced (word ∷ words) = word ++ codes " " ++ spaced words

abbrev pub space : ℕ
space = 32

abbrev pub line_feed : ℕ
line_feed = 10

abbrev pub line : List (List ℕ) → List ℕ
line words = spaced words ++ line_feed ∷ []
