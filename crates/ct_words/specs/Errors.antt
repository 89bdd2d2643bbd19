-- The numbers of the errors, and their texts.
use Rattle.std.specs.Prelude.{ℕ, ◌==◌, List, [], ◌++◌, get_or}
use Rattle.std.specs.List.{position_or_len, range_with_len}
use Rattle.ct_words.specs.Words.{error_names}

-- the errors have the numbers 1 to 6, 11 to 31, 41 to 47 and 51 to 59
abbrev pub error_numbers : List ℕ
error_numbers = range_with_len 1 6 ++ (range_with_len 11 21 ++ (range_with_len 41 7 ++ range_with_len 51 9))

-- the text of the error with this number; no text where no error has the number
abbrev pub error_text : ℕ → List ℕ
error_text number = get_or error_names (position_or_len (λ n. n == number) error_numbers) []
