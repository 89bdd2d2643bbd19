-- Where commands end in a text.
use Rattle.std.specs.Prelude.{◌≡◌, ℕ, List, [], ◌∷◌}
use Rattle.ct_sexpr.specs.Reading.{BeginsCommand}
use Rattle.ct_sexpr.specs.Text.{Located}

-- the bytes begin with these commands, and the others stand behind the closing parenthesis of the last one
abbrev pub AreFirst : List Located → List ℕ → List ℕ → Type 0
AreFirst [] bytes behind = behind ≡ bytes
AreFirst (c ∷ cs) bytes behind = (rest : List ℕ) × BeginsCommand bytes c.command rest × AreFirst cs rest behind
