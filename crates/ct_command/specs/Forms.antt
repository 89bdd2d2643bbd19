-- The forms of commands (SMT-LIB 2.7, section 3.9; cvc5 for codatatypes): what expressions after the word of a command say.
use Rattle.std.specs.Prelude.{ℕ, Bool, false, List, [], ◌∷◌, length, nat_le, Option, Some, None, option_map, option_and_then, codes, if◌then◌else◌}
use Rattle.std.specs.Str.{bytes_eq}
use Rattle.ct_sexpr.specs.Expression.{Expression}
use Rattle.ct_command.specs.declared.command.Family.{Family}
use Rattle.ct_command.specs.Command.{Named, SortHead, Constructor, Body, Command, declare_sort, define_sort, declare_block, declare_fun, define_fun, get_value, echo}
use Rattle.ct_command.specs.Items.{name_of, numeral_of, word_of, is_text, items_of, each}

-- `(x S)`
abbrev pub named_by : List Expression → Option Named
named_by (x ∷ (sort ∷ [])) = option_map (λ name. record { name = name; sort = sort }) (name_of x)
named_by es = None

abbrev pub named : Expression → Option Named
named e = option_and_then named_by (items_of e)

-- a name and a numeral
abbrev pub head_of : Expression → Expression → Option SortHead
head_of n arity = option_and_then (λ name. option_map (λ k. record { name = name; arity = k }) (numeral_of arity)) (name_of n)

-- `(N n)`
abbrev pub head_by : List Expression → Option SortHead
head_by (n ∷ (arity ∷ [])) = head_of n arity
head_by es = None

abbrev pub sort_head : Expression → Option SortHead
sort_head e = option_and_then head_by (items_of e)

-- `(C (s S) ..)`
abbrev pub constructor_by : List Expression → Option Constructor
constructor_by [] = None
constructor_by (c ∷ fields) = option_and_then (λ name. option_map (λ read. record { name = name; fields = read }) (each named fields)) (name_of c)

abbrev pub constructor : Expression → Option Constructor
constructor e = option_and_then constructor_by (items_of e)

-- the word is `par`
abbrev pub is_par : Option (List ℕ) → Bool
is_par None = false
is_par (Some word) = bytes_eq word (codes "par")

-- the expressions begin with `par`
abbrev pub begins_par : List Expression → Bool
begins_par [] = false
begins_par (e ∷ es) = is_par (word_of e)

-- constructors over these type parameters, of which there is one at least
abbrev pub over : List Expression → List Expression → Option Body
over [] ctors = None
over (x ∷ xs) ctors = option_and_then (λ names. option_map (λ cs. record { params = names; ctors = cs }) (each constructor ctors)) (each name_of (x ∷ xs))

-- `par (X ..) dec`
abbrev pub parametric : List Expression → Option Body
parametric (word ∷ (params ∷ (ctors ∷ []))) = option_and_then (λ xs. option_and_then (over xs) (items_of ctors)) (items_of params)
parametric es = None

-- `((C (s S) ..) ..)`, or `(par (X ..) ((C (s S) ..) ..))`
abbrev pub body_by : List Expression → Option Body
body_by es = if begins_par es then parametric es else option_map (λ cs. record { params = []; ctors = cs }) (each constructor es)

abbrev pub body : Expression → Option Body
body e = option_and_then body_by (items_of e)

-- the most arguments of an uninterpreted sort
abbrev pub most_arguments : ℕ
most_arguments = 255

-- an uninterpreted sort with few arguments
abbrev pub free_sort : SortHead → Option Command
free_sort head = if nat_le head.arity most_arguments then Some (declare_sort head.name head.arity) else None

-- `N n`
abbrev pub declared_sort : List Expression → Option Command
declared_sort es = option_and_then free_sort (head_by es)

-- `N (X ..) S`
abbrev pub defined_sort : List Expression → Option Command
defined_sort (n ∷ (params ∷ (sort ∷ []))) = option_and_then (λ name. option_and_then (λ xs. option_map (λ names. define_sort name names sort) (each name_of xs)) (items_of params)) (name_of n)
defined_sort es = None

-- a block of one sort, which has as many arguments as type parameters are written
abbrev pub block_of_one : Family → List ℕ → Body → Command
block_of_one family name b = declare_block family (record { name = name; arity = length b.params } ∷ []) (b ∷ [])

-- `N dec`
abbrev pub declared_type : Family → List Expression → Option Command
declared_type family (n ∷ (dec ∷ [])) = option_and_then (λ name. option_map (block_of_one family name) (body dec)) (name_of n)
declared_type family es = None

-- `((N n) ..)`, with one sort at least
abbrev pub sort_heads_by : List Expression → Option (List SortHead)
sort_heads_by [] = None
sort_heads_by (e ∷ es) = each sort_head (e ∷ es)

abbrev pub sort_heads : Expression → Option (List SortHead)
sort_heads e = option_and_then sort_heads_by (items_of e)

-- `(dec ..)`
abbrev pub bodies : Expression → Option (List Body)
bodies e = option_and_then (each body) (items_of e)

-- `((N n) ..) (dec ..)`
abbrev pub declared_types : Family → List Expression → Option Command
declared_types family (heads ∷ (decs ∷ [])) = option_and_then (λ ns. option_map (declare_block family ns) (bodies decs)) (sort_heads heads)
declared_types family es = None

-- `N S`
abbrev pub declared_const : List Expression → Option Command
declared_const (n ∷ (sort ∷ [])) = option_map (λ name. declare_fun name [] sort) (name_of n)
declared_const es = None

-- `N (S ..) S`
abbrev pub declared_fun : List Expression → Option Command
declared_fun (n ∷ (args ∷ (sort ∷ []))) = option_and_then (λ name. option_map (λ sorts. declare_fun name sorts sort) (items_of args)) (name_of n)
declared_fun es = None

-- `((x S) ..)`
abbrev pub parameters : Expression → Option (List Named)
parameters e = option_and_then (each named) (items_of e)

-- `N ((x S) ..) S t`
abbrev pub defined_fun : List Expression → Option Command
defined_fun (n ∷ (params ∷ (sort ∷ (t ∷ [])))) = option_and_then (λ name. option_map (λ read. define_fun name read sort t) (parameters params)) (name_of n)
defined_fun es = None

-- `N S t`
abbrev pub defined_const : List Expression → Option Command
defined_const (n ∷ (sort ∷ (t ∷ []))) = option_map (λ name. define_fun name [] sort t) (name_of n)
defined_const es = None

-- a number of levels, 1 where none is written
abbrev pub level_count : List Expression → Option ℕ
level_count [] = Some 1
level_count (n ∷ []) = numeral_of n
level_count es = None

-- nothing after the word
abbrev pub alone : Command → List Expression → Option Command
alone c [] = Some c
alone c (e ∷ es) = None

-- one term or more
abbrev pub some_terms : List Expression → Option Command
some_terms [] = None
some_terms (t ∷ ts) = Some (get_value (t ∷ ts))

-- `(t ..)`, with one term at least
abbrev pub valued : List Expression → Option Command
valued (ts ∷ []) = option_and_then some_terms (items_of ts)
valued es = None

-- a string literal
abbrev pub echoed : List Expression → Option Command
echoed (s ∷ []) = if is_text s then Some (echo s) else None
echoed es = None
