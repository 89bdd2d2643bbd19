-- The numbers of the errors of commands, beside those of sorts, terms and the assertion stack.
use Rattle.std.specs.Prelude.{ℕ}

-- the closure of the assertions is too large
abbrev pub closure_too_large : ℕ
closure_too_large = 30

-- there is no model
abbrev pub no_model : ℕ
no_model = 52

-- there is no derivation
abbrev pub no_derivation : ℕ
no_derivation = 53

-- the option cannot be set any more
abbrev pub not_now : ℕ
not_now = 54

-- there is no logic of the name
abbrev pub unknown_logic : ℕ
unknown_logic = 55
