-- `clap`'s faults and its test of arguments say the same: at most one kind of fault, and where there is none the test passes. It is
-- shown step by step along their two definitions, for a command with no subcommand.
use Rattle.std.proofs.Common.{◌≡◌, ◌+◌, ◌==◌, ◌&&◌, ◌||◌, ℕ, Bool, cond, true, false, not, true≢false, zero, suc, refl, sym, arith, List, [], ◌∷◌, length, drop, min, Option, Some, None, is_some, nat_lt, nat_le}
use Rattle.std.specs.Prelude.{⊤, encode_utf8, slice_get}
use Rattle.std.specs.List.{list_all}
use Rattle.std.specs.Option.{option_map_or}
use Rattle.std.specs.Str.{bytes_eq, chars}
use Rattle.std.proofs.lemmas.Bool.{eqb-true, le-leb, ltb-false}
use Rattle.ct_lemmas.proofs.Booleans.{both_parts}
use Rattle.clap.specs.Lexer.{long_of, short_of}
use Rattle.clap.specs.Values.{refused_kind}
use Rattle.clap.specs.ValueTests.{accepts}
use Rattle.clap.specs.Matches.{count_text}
use Rattle.clap.specs.Facts.{parser_of_value, unwrap_or_range}
use Rattle.clap.specs.Kinds.{Kinds, or_else, range_kinds, value_kinds}
use Rattle.clap.specs.Walk.{Held, Row, Rule, Step, Text, Waiting, Walk, action_of, arg_by_id, arg_by_index, arg_by_long, arg_by_short, attached_value, count_of, has_row, idle, is_empty, is_pending, most_values, next, option, positional, reacted, settled, subcommand, takes_several, takes_values, trailing, value, values_or_missing, walked, with_default, word_met}
use Rattle.clap.specs.Simple.{Shape}
use Rattle.clap.specs.Takes.{action_passes, bundle_passes, bundle_step_passes, count_passes, flag_word_passes, flags_pass, long_passes, option_passes, other_passes, positional_passes, react_passes, set_passes, settle_passes, short_passes, step_passes, turn_passes, use_passes, value_passes, values_pass, walk_passes, word_passes}
use Rattle.clap.specs.Faults.{action_fault, bundle_fault, bundle_step_fault, count_fault, defaults_fault, flag_word_fault, flags_fault, given_default_fault, long_fault, option_fault, other_fault, positional_fault, react_fault, repeat_fault, set_fault, settle_fault, short_fault, step_fault, stray_fault, turn_fault, use_fault, values_fault, walk_fault, word_fault}
use Rattle.clap.specs.declared.builder.action.ArgAction.{ArgAction}
use Rattle.clap.specs.declared.builder.action.ArgAction.TheVariants as action
use Rattle.clap.specs.declared.error.kind.ErrorKind.TheVariants as kind
use Rattle.clap.specs.declared.builder.value_parser.ValueParser.{ValueParser}

-- at most one kind, and where there is none the test passes
abbrev pub Agrees : Kinds → Bool → Type 0
Agrees [] passes = passes ≡ true
Agrees (k ∷ []) passes = ⊤
Agrees (k ∷ (l ∷ ks)) passes = ⊥

-- one step, and then another
pub then : (ks ls : Kinds) (p q : Bool) → Agrees ks p → Agrees ls q → Agrees (or_else ks ls) (p && q)
then [] ls p q a b = rw a b
then (k ∷ []) ls p q a b = tt
then (k ∷ (l ∷ ks)) ls p q a b = absurd a

-- ---- values

value_agrees : (i : Bool) (p : ValueParser) (t : Text) → Agrees (value_kinds i p t) (accepts i p t)
value_agrees i p t = go (accepts i p t)
  where
    go : (b : Bool) → Agrees (cond b [] (refused_kind p ∷ [])) b
    go true = refl
    go false = tt

values_agree : (a : Rule) (vs : List Text) → Agrees (values_fault a vs) (values_pass a vs)
values_agree a [] = refl
values_agree a (v ∷ vs) =
    then (value_kinds a.ignore_case (parser_of_value a.parser) v) (values_fault a vs) (value_passes a v) (values_pass a vs)
    (value_agrees a.ignore_case (parser_of_value a.parser) v) (values_agree a vs)

-- ---- one use of an argument

module _ (again : Bool) (a : Rule) where
  count_agrees : (vs : List Text) (rows : List Row) → Agrees (count_fault a vs rows) (count_passes a vs rows)
  count_agrees [] rows = value_agrees a.ignore_case (parser_of_value a.parser) (count_text (min (count_of a.id rows + 1) 255))
  count_agrees (v ∷ vs) rows = values_agree a (v ∷ vs)

  repeat_agrees : (rows : List Row) → Agrees (repeat_fault again a.id rows) (not (has_row a.id rows) || again)
  repeat_agrees rows = go (has_row a.id rows) again
    where
      go : (h g : Bool) → Agrees (cond (h && not g) (kind.ArgumentConflict ∷ []) []) (not h || g)
      go true true = refl
      go true false = tt
      go false true = refl
      go false false = refl

  set_agrees : (vs : List Text) (rows : List Row) → Agrees (set_fault again a vs rows) (set_passes again a vs rows)
  set_agrees vs rows =
      then (repeat_fault again a.id rows) (values_fault a vs) (not (has_row a.id rows) || again) (values_pass a vs) (repeat_agrees rows) (values_agree a vs)

  action_agrees : (x : ArgAction) (vs : List Text) (rows : List Row) → Agrees (action_fault x again a vs rows) (action_passes x again a vs rows)
  action_agrees action.Set vs rows = set_agrees vs rows
  action_agrees action.SetTrue vs rows = set_agrees vs rows
  action_agrees action.SetFalse vs rows = set_agrees vs rows
  action_agrees action.Append vs rows = values_agree a vs
  action_agrees action.Count vs rows = count_agrees vs rows
  action_agrees action.Help vs rows = tt
  action_agrees action.HelpShort vs rows = tt
  action_agrees action.HelpLong vs rows = tt
  action_agrees action.Version vs rows = tt

-- n values, where from `least` to `most` are wanted
range_agrees : (least most n : ℕ) → Agrees (range_kinds least most n) (nat_le least n && nat_le n most)
range_agrees least most n = go (nat_lt 0 least && n == 0) (least == most) refl
  where
    exact : (b : Bool) → (least == n) ≡ b → least ≡ most → Agrees (cond b [] (kind.WrongNumberOfValues ∷ [])) (nat_le least n && nat_le n most)
    exact true e same =
        let is : least ≡ n = eqb-true least n e in
        rw (le-leb least n (omega (arith, is)), le-leb n most (omega (arith, is, same))) refl
    exact false e same = tt

    most_kept : (b : Bool) → nat_lt most n ≡ b → nat_lt n least ≡ false → Agrees (cond b (kind.TooManyValues ∷ []) []) (nat_le least n && nat_le n most)
    most_kept true e enough = tt
    most_kept false e enough = rw (le-leb least n (ltb-false n least enough), le-leb n most (ltb-false most n e)) refl

    between : (b : Bool) → nat_lt n least ≡ b
        → Agrees (cond b (kind.TooFewValues ∷ []) (cond (nat_lt most n) (kind.TooManyValues ∷ []) [])) (nat_le least n && nat_le n most)
    between true e = tt
    between false e = most_kept (nat_lt most n) refl e

    go : (b c : Bool) → (least == most) ≡ c
        → Agrees (cond b (kind.InvalidValue ∷ []) (cond c (cond (least == n) [] (kind.WrongNumberOfValues ∷ []))
        (cond (nat_lt n least) (kind.TooFewValues ∷ []) (cond (nat_lt most n) (kind.TooManyValues ∷ []) [])))) (nat_le least n && nat_le n most)
    go true c e = tt
    go false true e = exact (least == n) refl (eqb-true least most e)
    go false false e = between (nat_lt n least) refl

-- a conjunction of three, put together from the left
left_first : (ks : Kinds) (p q r : Bool) → Agrees ks ((p && q) && r) → Agrees ks (p && (q && r))
left_first ks true q r a = a
left_first ks false q r a = a

use_agrees : (again : Bool) (a : Rule) (vs : List Text) (rows : List Row) → Agrees (use_fault again a vs rows) (use_passes again a vs rows)
use_agrees again a vs rows =
    let least = (unwrap_or_range a.range).start_inclusive in
    let n = length vs in
    let given = values_or_missing a vs in
    left_first (use_fault again a vs rows) (nat_le least n) (nat_le n (most_values a)) (action_passes (action_of a) again a given rows)
    (then (range_kinds least (most_values a) n) (action_fault (action_of a) again a given rows) (nat_le least n && nat_le n (most_values a))
    (action_passes (action_of a) again a given rows) (range_agrees least (most_values a) n) (action_agrees again a (action_of a) given rows))

-- ---- the walk

module _ (c : List Rule) (again : Bool) where
  pub settle_agrees : (h : Held) → Agrees (settle_fault c again h) (settle_passes c again h)
  settle_agrees h = go h.pending
    where
      found : (values : List Text) (o : Option Rule)
          → Agrees (option_map_or (λ a. use_fault again a values h.rows) o []) (option_map_or (λ a. use_passes again a values h.rows) o true)
      found values None = refl
      found values (Some a) = use_agrees again a values h.rows

      go : (o : Option (Text × List Text)) → Agrees (option_map_or (λ p. option_map_or (λ a. use_fault again a p.1 h.rows) (arg_by_id c p.0) []) o [])
          (option_map_or (λ p. option_map_or (λ a. use_passes again a p.1 h.rows) (arg_by_id c p.0) true) o true)
      go None = refl
      go (Some p) = found p.1 (arg_by_id c p.0)

  react_agrees : (a : Rule) (vs : List Text) (h : Held) → Agrees (react_fault c again a vs h) (react_passes c again a vs h)
  react_agrees a vs h =
      then (settle_fault c again h) (use_fault again a vs (settled c h).rows) (settle_passes c again h) (use_passes again a vs (settled c h).rows)
      (settle_agrees h) (use_agrees again a vs (settled c h).rows)

  option_agrees : (a : Rule) (v : Option Text) (h : Held) → Agrees (option_fault c again a v h) (option_passes c again a v h)
  option_agrees a (Some v) h = react_agrees a (v ∷ []) h
  option_agrees a None h = settle_agrees h

  long_agrees : (o : Option Rule) (v : Option Text) (h : Held) → Agrees (long_fault c again o v h) (long_passes c again o v h)
  long_agrees None v h = tt
  long_agrees (Some a) v h = go (takes_values a) v
    where
      go : (b : Bool) (w : Option Text)
          → Agrees (cond b (option_fault c again a w h) (cond (is_some w) (kind.TooManyValues ∷ []) (react_fault c again a [] h)))
          (cond b (option_passes c again a w h) (not (is_some w) && react_passes c again a [] h))
      go true w = option_agrees a w h
      go false (Some w) = tt
      go false None = react_agrees a [] h

  short_agrees : (o : Option Rule) (rest : Text) (h : Held) (fault : Held → Kinds) (passes : Held → Bool) → ((x : Held) → Agrees (fault x) (passes x))
      → Agrees (short_fault c again o rest h fault) (short_passes c again o rest h passes)
  short_agrees None rest h fault passes agree = tt
  short_agrees (Some a) rest h fault passes agree = go (takes_values a)
    where
      go : (b : Bool) → Agrees (cond b (option_fault c again a (attached_value rest) h) (or_else (react_fault c again a [] h) (fault (reacted c a [] h))))
          (cond b (option_passes c again a (attached_value rest) h) (react_passes c again a [] h && passes (reacted c a [] h)))
      go true = option_agrees a (attached_value rest) h
      go false = then (react_fault c again a [] h) (fault (reacted c a [] h)) (react_passes c again a [] h) (passes (reacted c a [] h))
          (react_agrees a [] h) (agree (reacted c a [] h))

  bundle_step_agrees : (o : Option ℕ) (flags : Text) (skip : ℕ) (h : Held) (fault : Text → ℕ → Held → Kinds) (passes : Text → ℕ → Held → Bool)
      → ((t : Text) (n : ℕ) (x : Held) → Agrees (fault t n x) (passes t n x))
      → Agrees (bundle_step_fault c again o flags skip h fault) (bundle_step_passes c again o flags skip h passes)
  bundle_step_agrees None flags skip h fault passes agree = refl
  bundle_step_agrees (Some x) flags zero h fault passes agree =
      let rest = drop (length (encode_utf8 x)) flags in
      short_agrees (arg_by_short c x) rest h (fault rest 0) (passes rest 0) (agree rest 0)
  bundle_step_agrees (Some x) flags (suc skip) h fault passes agree = agree (drop (length (encode_utf8 x)) flags) skip h

  flags_agree : (k : ℕ) (flags : Text) (skip : ℕ) (h : Held) → Agrees (flags_fault c again k flags skip h) (flags_pass c again k flags skip h)
  unfolding flags_fault flags_pass
  flags_agree zero flags skip h = refl
  flags_agree (suc k) flags skip h = bundle_step_agrees (slice_get (chars flags) 0) flags skip h (flags_fault c again k) (flags_pass c again k) (flags_agree k)

  flag_word_agrees : (o : Option (Text × Option Text)) (word : Text) (h : Held) → Agrees (flag_word_fault c again o word h) (flag_word_passes c again o word h)
  flag_word_agrees (Some p) word h = long_agrees (arg_by_long c p.0) p.1 h
  flag_word_agrees None word h = go (short_of word)
    where
      go : (o : Option Text) → Agrees (option_map_or (λ flags. bundle_fault c again flags h) o []) (option_map_or (λ flags. bundle_passes c again flags h) o true)
      go None = refl
      go (Some flags) = flags_agree (length flags) flags h.skip (record h { skip = 0 })

  positional_agrees : (a : Rule) (h : Held) → Agrees (positional_fault c again a h) (positional_passes c again a h)
  positional_agrees a h = go (is_pending a h.pending && takes_several a)
    where
      go : (b : Bool) → Agrees (cond b [] (settle_fault c again h)) (b || settle_passes c again h)
      go true = refl
      go false = settle_agrees h

module _ (s : Shape) (is_leaf : s.is_leaf ≡ true) where
  no_subcommand_agrees : (word : Text) (h : Held) → Agrees (other_fault s None word h) (other_passes s None word h)
  no_subcommand_agrees word h = go (bytes_eq word (45 ∷ 45 ∷ []))
    where
      go : (b : Bool) → Agrees (cond b [] (flag_word_fault s.rules s.args_override_self (long_of word) word h))
          (b || flag_word_passes s.rules s.args_override_self (long_of word) word h)
      go true = refl
      go false = flag_word_agrees s.rules s.args_override_self (long_of word) word h

  word_agrees : (is_trailing : Bool) (waiting : Waiting) (word : Text) (h : Held)
      → Agrees (word_fault s [] is_trailing waiting word h) (word_passes s [] is_trailing waiting word h)
  word_agrees true waiting word h = refl
  word_agrees false idle word h = no_subcommand_agrees word h
  word_agrees false (option id) word h = no_subcommand_agrees word h
  word_agrees false positional word h = no_subcommand_agrees word h

  stray_agrees : Agrees (stray_fault s) false
  stray_agrees = rw is_leaf tt

  step_agrees : (position : ℕ) (h : Held) (step : Step) → Agrees (step_fault s position h step) (step_passes s position h step)
  step_agrees position h value = go (arg_by_index s.rules position)
    where
      go : (o : Option Rule) → Agrees (option_map_or (λ a. positional_fault s.rules s.args_override_self a h) o (stray_fault s))
          (option_map_or (λ a. positional_passes s.rules s.args_override_self a h) o false)
      go None = stray_agrees
      go (Some a) = positional_agrees s.rules s.args_override_self a h
  step_agrees position h (next waiting) = refl
  step_agrees position h (trailing p) = refl
  step_agrees position h (subcommand name) = refl

  turn_agrees : (w : Walk) (word : Text) → Agrees (turn_fault s [] w word) (turn_passes s [] w word)
  turn_agrees w word = go (is_some w.stopped)
    where
      met : Held × Step
      met = word_met s.rules [] w.is_trailing w.waiting w.position word w.held

      go : (b : Bool) → Agrees (cond b [] (or_else (word_fault s [] w.is_trailing w.waiting word w.held) (step_fault s w.position met.0 met.1)))
          (b || (word_passes s [] w.is_trailing w.waiting word w.held && step_passes s w.position met.0 met.1))
      go true = refl
      go false = then (word_fault s [] w.is_trailing w.waiting word w.held) (step_fault s w.position met.0 met.1)
          (word_passes s [] w.is_trailing w.waiting word w.held) (step_passes s w.position met.0 met.1)
          (word_agrees w.is_trailing w.waiting word w.held) (step_agrees w.position met.0 met.1)

  pub walk_agrees : (w : Walk) (words : List Text) → Agrees (walk_fault s [] w words) (walk_passes s [] w words)
  unfolding walk_fault walk_passes
  walk_agrees w [] = refl
  walk_agrees w (word ∷ rest) =
      then (turn_fault s [] w word) (walk_fault s [] (walked s.rules [] w word) rest) (turn_passes s [] w word) (walk_passes s [] (walked s.rules [] w word) rest)
      (turn_agrees w word) (walk_agrees (walked s.rules [] w word) rest)

-- ---- after the walk

-- no kinds
abbrev is_nil : Kinds → Bool
is_nil [] = true
is_nil (k ∷ ks) = false

nil_of : (ks : Kinds) → is_nil ks ≡ true → ks ≡ []
nil_of [] e = refl
nil_of (k ∷ ks) e = absurd (true≢false (sym e))

-- the default values of the argument, if it has any, are right
abbrev pub is_right : Rule → Bool
is_right a = is_empty a.defaults || is_nil (given_default_fault a a.defaults)

-- where those of each argument are right, none is wrong
right_default : (a : Rule) (given empty : Bool) → (empty || is_nil (given_default_fault a a.defaults)) ≡ true → cond (given || empty) [] (given_default_fault a a.defaults) ≡ []
right_default a true empty right = refl
right_default a false true right = refl
right_default a false false right = nil_of (given_default_fault a a.defaults) right

pub no_default_fault : (rows : List Row) (rules : List Rule) → list_all is_right rules ≡ true → defaults_fault rows rules ≡ []
unfolding defaults_fault
no_default_fault rows [] e = refl
no_default_fault rows (a ∷ rest) e =
    let parts = both_parts (is_right a) (list_all is_right rest) e in
    rw (right_default a (has_row a.id rows) (is_empty a.defaults) parts.0) (no_default_fault (with_default rows a) rest parts.1)
