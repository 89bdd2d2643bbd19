-- The expression with which bytes begin, token by token, and its parts.
use Rattle.std.proofs.Common.{◌≡◌, ℕ, zero, suc, ◌+◌, ◌-◌, ◌<◌, ◌≤◌, Bool, true, false, eqb, List, [], ◌∷◌, ◌++◌, length, drop, get_or, inl, inr, ◌↔◌, IsTrue, true≢false, Option, None, Some, Result, Ok, Err, refl, ap, sym, ◌∙◌, subst, arith, length-append, append_assoc}
use Rattle.std.proofs.lemmas.Bool.Decides.{eqb_tells}
use Rattle.ct_sexpr.specs.Whitespace.{after_whitespace}
use Rattle.ct_sexpr.specs.TakeWhile.{take_while, drop_while}
use Rattle.ct_sexpr.specs.Atom.{Atom, begins_word, word_of, after_word, atom_of}
use Rattle.ct_sexpr.specs.Token.{Token, opening, closing, atom, bar, is_in_quoted_symbol, string_content, after_text, Lexeme, token, wrong, cut, quoted_lexeme, text_lexeme, word_lexeme, lexeme_at, AreTokens}
use Rattle.ct_sexpr.specs.Expression.{Expression, leaf, list, Expressions, none, more, tokens_of, tokens_of_each}
use Rattle.ct_sexpr.proofs.Branches.{either_has}
use Rattle.ct_sexpr.proofs.Prefixes.{EndsWith, tokens_prefix, whitespace_prefix}
use Rattle.ct_input.specs.Parts.{part_of, part_among, StandsAt, StandsAmong, IsSpan, BeginsClosing, Lacks, depth_after}
use Rattle.ct_input.proofs.PieceLemmas.{split}
use Rattle.ct_input.proofs.SourceLemmas.{left_after, tokens_at, tokens_end}

-- ---- the first byte of a token

-- no parenthesis
abbrev IsAtom : Lexeme → Type 0
IsAtom (token opening rest) = ⊥
IsAtom (token closing rest) = ⊥
IsAtom (token (atom a) rest) = Unit {0}
IsAtom (wrong code rest) = Unit {0}
IsAtom cut = Unit {0}

quoted_is_atom : (content left : List ℕ) → IsAtom (quoted_lexeme content left)
quoted_is_atom content [] = tt
quoted_is_atom content (b ∷ bs) = either_has IsAtom (eqb b bar) _ _ tt tt

text_is_atom : (content : List ℕ) (left : Option (List ℕ)) → IsAtom (text_lexeme content left)
text_is_atom content None = tt
text_is_atom content (Some left) = tt

word_is_atom : (read : Result Atom ℕ) (bytes left : List ℕ) → IsAtom (word_lexeme read bytes left)
word_is_atom (Ok a) bytes left = tt
word_is_atom (Err code) bytes left = tt

-- bytes that begin with no parenthesis
other_is_atom : (b : ℕ) (bs : List ℕ) → eqb b 40 ≡ false → eqb b 41 ≡ false → IsAtom (lexeme_at (b ∷ bs))
other_is_atom b bs o c =
    rw (o, c) (either_has IsAtom (eqb b 124) _ _ (quoted_is_atom (take_while is_in_quoted_symbol bs) (drop_while is_in_quoted_symbol bs))
    (either_has IsAtom (eqb b 34) _ _ (text_is_atom (string_content bs) (after_text bs))
    (either_has IsAtom (begins_word b) _ _ (word_is_atom (atom_of (b ∷ word_of bs)) (b ∷ bs) (after_word bs)) tt)))

-- how many parentheses are open after a token
abbrev depth_by : Token → ℕ → ℕ
depth_by opening depth = depth + 1
depth_by closing depth = depth - 1
depth_by (atom a) depth = depth

atom_stays : (t : Token) (rest : List ℕ) (depth : ℕ) → IsAtom (token t rest) → depth ≡ depth_by t depth
atom_stays opening rest depth is = absurd is
atom_stays closing rest depth is = absurd is
atom_stays (atom a) rest depth is = refl

depth_is : (b : ℕ) (bs : List ℕ) (t : Token) (rest : List ℕ) (depth : ℕ) → lexeme_at (b ∷ bs) ≡ token t rest → depth_after b depth ≡ depth_by t depth
depth_is b bs t rest depth e = by (eqb b 40) (eqb b 41) refl refl
  where
    opens : (u : Token) (l : List ℕ) → token opening bs ≡ token u l → depth + 1 ≡ depth_by u depth
    opens u l k = (let is : u ≡ opening = cc in rw is refl)

    closes : (u : Token) (l : List ℕ) → token closing bs ≡ token u l → depth - 1 ≡ depth_by u depth
    closes u l k = (let is : u ≡ closing = cc in rw is refl)

    by : (o c : Bool) → eqb b 40 ≡ o → eqb b 41 ≡ c → depth_after b depth ≡ depth_by t depth
    by true c o_is c_is = rw o_is (opens t rest (rw o_is at e))
    by false true o_is c_is = rw (o_is, c_is) (closes t rest (rw (o_is, c_is) at e))
    by false false o_is c_is = rw (o_is, c_is) (atom_stays t rest depth (subst IsAtom e (other_is_atom b bs o_is c_is)))

-- ---- the tokens that are left of an expression

-- the tokens that close so many lists, each after the items that are left of it
abbrev Closes : ℕ → List Token → Type 0
Closes zero ts = ts ≡ []
Closes (suc depth) ts = (es : Expressions) × (later : List Token) × (ts ≡ tokens_of_each es ++ closing ∷ later) × Closes depth later

-- what is left of the bytes of an expression inside so many lists of it, up to its end
abbrev pub IsInside : ℕ → List ℕ → List ℕ → Type 0
IsInside zero bytes end = (e : Expression) × AreTokens (tokens_of e) bytes end
IsInside (suc depth) bytes end = (ts : List Token) × Closes (suc depth) ts × AreTokens ts bytes end

-- the same after a token
abbrev pub IsAfter : ℕ → List ℕ → List ℕ → Type 0
IsAfter zero bytes end = bytes ≡ end
IsAfter (suc depth) bytes end = IsInside (suc depth) bytes end

-- a token is passed in a list: it closes the list, or belongs to an item, or begins one
passed_in : (depth : ℕ) (es : Expressions) (later : List Token) (b : ℕ) (bs end : List ℕ) (rest : List ℕ) → Closes depth later → after_whitespace (b ∷ bs) ≡ b ∷ bs →
    AreTokens (tokens_of_each es ++ closing ∷ later) (b ∷ bs) end → ((t : Token) (r : List ℕ) → lexeme_at (b ∷ bs) ≡ token t r → rest ≡ r) → IsAfter (depth_after b (suc depth)) rest end
passed_in depth none later b bs end rest closes start a follows =
    let is : lexeme_at (b ∷ bs) ≡ token closing a.0 = sym (ap (λ l. lexeme_at l) start) ∙ a.1 in
    subst (λ n. IsAfter n rest end) (sym (depth_is b bs closing a.0 (suc depth) is ∙ less depth)) (closed depth later closes (rw (follows closing a.0 is) a.2))
  where
    less : (n : ℕ) → suc n - 1 ≡ n
    less n = omega arith

    closed : (n : ℕ) (ts : List Token) → Closes n ts → AreTokens ts rest end → IsAfter n rest end
    closed zero ts is tokens = subst (λ us. AreTokens us rest end) is tokens
    closed (suc n) ts is tokens = (ts, is, tokens)
passed_in depth (more (leaf x) es) later b bs end rest closes start a follows =
    let is : lexeme_at (b ∷ bs) ≡ token (atom x) a.0 = sym (ap (λ l. lexeme_at l) start) ∙ a.1 in
    subst (λ n. IsAfter n rest end) (sym (depth_is b bs (atom x) a.0 (suc depth) is))
    (tokens_of_each es ++ closing ∷ later, (es, later, refl, closes), rw (follows (atom x) a.0 is) a.2)
passed_in depth (more (list fs) es) later b bs end rest closes start a follows =
    let is : lexeme_at (b ∷ bs) ≡ token opening a.0 = sym (ap (λ l. lexeme_at l) start) ∙ a.1 in
    let ts = tokens_of_each fs ++ closing ∷ (tokens_of_each es ++ closing ∷ later) in
    let apart : ((tokens_of_each fs ++ closing ∷ []) ++ tokens_of_each es) ++ closing ∷ later ≡ ts =
    append_assoc (tokens_of_each fs ++ closing ∷ []) (tokens_of_each es) (closing ∷ later) ∙ append_assoc (tokens_of_each fs) (closing ∷ []) (tokens_of_each es ++ closing ∷ later) in
    let deeper : suc depth + 1 ≡ suc (suc depth) = omega arith in
    subst (λ n. IsAfter n rest end) (sym (depth_is b bs opening a.0 (suc depth) is ∙ deeper))
    (ts, (fs, tokens_of_each es ++ closing ∷ later, refl, (es, later, refl, closes)), subst (λ us. AreTokens us rest end) apart (rw (follows opening a.0 is) a.2))

-- a token is passed
pub passed : (depth : ℕ) (b : ℕ) (bs end rest : List ℕ) → after_whitespace (b ∷ bs) ≡ b ∷ bs → IsInside depth (b ∷ bs) end →
    ((t : Token) (r : List ℕ) → lexeme_at (b ∷ bs) ≡ token t r → rest ≡ r) → IsAfter (depth_after b depth) rest end
passed zero b bs end rest start (leaf x, a) follows =
    let is : lexeme_at (b ∷ bs) ≡ token (atom x) a.0 = sym (ap (λ l. lexeme_at l) start) ∙ a.1 in
    subst (λ n. IsAfter n rest end) (sym (depth_is b bs (atom x) a.0 0 is)) (follows (atom x) a.0 is ∙ a.2)
passed zero b bs end rest start (list es, a) follows =
    let is : lexeme_at (b ∷ bs) ≡ token opening a.0 = sym (ap (λ l. lexeme_at l) start) ∙ a.1 in
    subst (λ n. IsAfter n rest end) (sym (depth_is b bs opening a.0 0 is)) (tokens_of_each es ++ closing ∷ [], (es, [], refl, refl), rw (follows opening a.0 is) a.2)
passed (suc depth) b bs end rest start (ts, c, a) follows = passed_in depth c.0 c.1 b bs end rest c.3 start (subst (λ us. AreTokens us (b ∷ bs) end) c.2 a) follows

-- whitespace may be passed
inside_after : (depth : ℕ) (es : Expressions) (later : List Token) (bytes end : List ℕ) → AreTokens (tokens_of_each es ++ closing ∷ later) bytes end → AreTokens (tokens_of_each es ++ closing ∷ later) (after_whitespace bytes) end
inside_after depth none later bytes end a = tokens_at closing later bytes end a
inside_after depth (more (leaf x) es) later bytes end a = tokens_at (atom x) _ bytes end a
inside_after depth (more (list fs) es) later bytes end a = tokens_at opening _ bytes end a

pub whitespace_passed : (depth : ℕ) (bytes end : List ℕ) → IsInside depth bytes end → IsInside depth (after_whitespace bytes) end
whitespace_passed zero bytes end (leaf x, a) = (leaf x, tokens_at (atom x) [] bytes end a)
whitespace_passed zero bytes end (list es, a) = (list es, tokens_at opening _ bytes end a)
whitespace_passed (suc depth) bytes end (ts, c, a) =
    (ts, c, subst (λ us. AreTokens us (after_whitespace bytes) end) (sym c.2) (inside_after depth c.0 c.1 bytes end (subst (λ us. AreTokens us bytes end) c.2 a)))

-- something is left inside an expression
first_token : (t : Token) (ts : List Token) (end : List ℕ) → AreTokens (t ∷ ts) [] end → ⊥
first_token t ts end a = (let clash : cut ≡ token t a.0 = a.1 in cc)

none_left_in : (es : Expressions) (later : List Token) (end : List ℕ) → AreTokens (tokens_of_each es ++ closing ∷ later) [] end → ⊥
none_left_in none later end a = first_token closing later end a
none_left_in (more (leaf x) es) later end a = first_token (atom x) _ end a
none_left_in (more (list fs) es) later end a = first_token opening _ end a

pub none_left : (depth : ℕ) (end : List ℕ) → IsInside depth [] end → ⊥
none_left zero end (leaf x, a) = first_token (atom x) [] end a
none_left zero end (list es, a) = first_token opening _ end a
none_left (suc depth) end (ts, c, a) = none_left_in c.0 c.1 end (subst (λ us. AreTokens us [] end) c.2 a)

-- the first token of what is left
pub pass_first : (depth : ℕ) (l others end rest : List ℕ) → 1 ≤ length l → others ≡ drop 1 l → after_whitespace l ≡ l → IsInside depth l end →
    ((t : Token) (r : List ℕ) → lexeme_at (get_or l 0 0 ∷ others) ≡ token t r → rest ≡ r) → IsAfter (depth_after (get_or l 0 0) depth) rest end
pass_first depth [] others end rest some is start inside follows = absurd (omega (arith, some))
pass_first depth (b ∷ bs) others end rest some is start inside follows = passed depth b bs end rest start inside (rw is at follows)

pub deeper_by_one : (b depth : ℕ) → depth_after b depth ≤ depth + 1
deeper_by_one b depth = either_has (λ n. n ≤ depth + 1) (eqb b 40) _ _ (omega arith) (either_has (λ n. n ≤ depth + 1) (eqb b 41) _ _ (omega arith) (omega arith))

pub ends_here : (depth : ℕ) (rest end : List ℕ) → depth ≡ 0 → IsAfter depth rest end → rest ≡ end
ends_here zero rest end is after = after
ends_here (suc depth) rest end is after = absurd (omega (arith, is))

-- what is left after whitespace, where a list is open
pub goes_on : (depth : ℕ) (rest end : List ℕ) → (depth ≡ 0 → ⊥) → IsAfter depth rest end → IsInside depth (after_whitespace rest) end
goes_on zero rest end is after = absurd (is refl)
goes_on (suc depth) rest end is after = whitespace_passed (suc depth) rest end after

pub none_at_end : (depth : ℕ) (l end : List ℕ) → length l < 1 → IsInside depth l end → ⊥
none_at_end depth [] end few inside = none_left depth end inside
none_at_end depth (b ∷ bs) end few inside = absurd (omega (arith, few))

-- ---- the parts of an expression

-- an item after the first one is one of the others
pub later_item : (es : Expressions) (index : ℕ) (path bytes from end : List ℕ) → 0 < index → StandsAmong es index path bytes from end →
    (e : Expression) × (others : List ℕ) × AreTokens (tokens_of e) bytes others × ((rest : List ℕ) → rest ≡ others → (fs : Expressions) × StandsAmong fs (index - 1) path rest from end)
later_item none index path bytes from end some s = absurd s
later_item (more e es) zero path bytes from end some s = absurd (omega (arith, some))
later_item (more e es) (suc index) path bytes from end some s =
    let less : suc index - 1 ≡ index = omega arith in
    (e, s.0, s.1, λ rest is. (es, rw (is, less) s.2))

-- a part of a list is one of its items, or part of one
pub in_list : (e : Expression) (index : ℕ) (path bytes from end : List ℕ) → StandsAt e (index ∷ path) bytes from end →
    (es : Expressions) × (inside : List ℕ) × AreTokens (opening ∷ []) bytes inside × StandsAmong es index path inside from end
in_list (leaf x) index path bytes from end s = absurd s
in_list (list es) index path bytes from end s = (es, s.0, s.1, s.2)

-- bytes begin with a closing parenthesis where their first byte after whitespace is one
first_closes : (b : ℕ) (bs : List ℕ) → eqb b 41 ≡ true → lexeme_at (b ∷ bs) ≡ token closing bs
first_closes b bs e =
    elim (eqb_tells b 41) [
      | inl same ↦ (rw same.1 refl)
      | inr other ↦ absurd (true≢false (sym e ∙ other.0))
    ]

closes_first : (b : ℕ) (bs rest : List ℕ) → lexeme_at (b ∷ bs) ≡ token closing rest → eqb b 41 ≡ true
closes_first b bs rest e = by (eqb b 40) (eqb b 41) refl refl
  where
    by : (o c : Bool) → eqb b 40 ≡ o → eqb b 41 ≡ c → eqb b 41 ≡ true
    by true c o_is c_is = (let clash : token opening bs ≡ token closing rest = rw o_is at e in cc)
    by false true o_is c_is = c_is
    by false false o_is c_is = absurd (subst IsAtom e (other_is_atom b bs o_is c_is))

pub closing_by : (bytes l : List ℕ) → l ≡ after_whitespace bytes → 1 ≤ length l → IsTrue (eqb (get_or l 0 0) 41) ↔ BeginsClosing bytes
closing_by bytes [] is some = absurd (omega (arith, some))
closing_by bytes (b ∷ bs) is some = (
  λ t. (bs, (bs, ap (λ l. lexeme_at l) (sym is) ∙ first_closes b bs t, refl)),
  λ closes. closes_first b bs closes.1.0 (ap (λ l. lexeme_at l) is ∙ closes.1.1),
)

-- no expression begins with a closing parenthesis
pub none_closing : (e : Expression) (bytes rest : List ℕ) → AreTokens (tokens_of e) bytes rest → BeginsClosing bytes → ⊥
none_closing (leaf x) bytes rest a (after, c) = (let clash : token (atom x) a.0 ≡ token closing c.0 = sym a.1 ∙ c.1 in cc)
none_closing (list es) bytes rest a (after, c) = (let clash : token opening a.0 ≡ token closing c.0 = sym a.1 ∙ c.1 in cc)

-- what lacks an item at the path
abbrev pub LacksAmong : ℕ → List ℕ → List ℕ → Type 0
LacksAmong index path bytes = (es : Expressions) × (end : List ℕ) × AreTokens (tokens_of_each es ++ closing ∷ []) bytes end × (part_among es index path ≡ None)

pub lacks_inside : (index : ℕ) (path bytes inside : List ℕ) → AreTokens (opening ∷ []) bytes inside → Lacks (index ∷ path) bytes → LacksAmong index path inside
lacks_inside index path bytes inside o (inl c) = (let clash : token opening o.0 ≡ token closing c.1.0 = sym o.1 ∙ c.1.1 in cc)
lacks_inside index path bytes inside o (inr (leaf x, rest, a, is)) = (let clash : token opening o.0 ≡ token (atom x) a.0 = sym o.1 ∙ a.1 in cc)
lacks_inside index path bytes inside o (inr (list es, rest, a, is)) =
    let same : token opening a.0 ≡ token opening o.0 = sym a.1 ∙ o.1 in
    let at : a.0 ≡ o.0 = cc in
    (es, rest, subst (λ l. AreTokens (tokens_of_each es ++ closing ∷ []) l rest) (at ∙ o.2) a.2, is)

pub lacks_later : (index : ℕ) (path bytes rest : List ℕ) → 0 < index → ((e : Expression) (end : List ℕ) → AreTokens (tokens_of e) bytes end → rest ≡ end) → (BeginsClosing bytes → ⊥) →
    LacksAmong index path bytes → LacksAmong (index - 1) path rest
lacks_later index path bytes rest some found open_list (none, end, a, is) = absurd (open_list (a.0, (a.0, a.1, refl)))
lacks_later zero path bytes rest some found open_list (more e es, end, a, is) = absurd (omega (arith, some))
lacks_later (suc index) path bytes rest some found open_list (more e es, end, a, is) =
    let apart : AreTokens (tokens_of e ++ (tokens_of_each es ++ closing ∷ [])) bytes end = subst (λ ts. AreTokens ts bytes end) (append_assoc (tokens_of e) (tokens_of_each es) (closing ∷ [])) a in
    let parts = split (tokens_of e) (tokens_of_each es ++ closing ∷ []) bytes end apart in
    let less : suc index - 1 ≡ index = omega arith in
    (es, end, rw (found e parts.0 parts.1) parts.2, rw less is)

pub lacks_here : (path bytes : List ℕ) → LacksAmong 0 path bytes → Lacks path bytes
lacks_here path bytes (none, end, a, is) = inl (a.0, (a.0, a.1, refl))
lacks_here path bytes (more e es, end, a, is) =
    let apart : AreTokens (tokens_of e ++ (tokens_of_each es ++ closing ∷ [])) bytes end = subst (λ ts. AreTokens ts bytes end) (append_assoc (tokens_of e) (tokens_of_each es) (closing ∷ [])) a in
    let parts = split (tokens_of e) (tokens_of_each es ++ closing ∷ []) bytes end apart in
    inr (e, parts.0, parts.1, is)

pub lacks_nothing : (path bytes : List ℕ) → length path < 1 → (BeginsClosing bytes → ⊥) → Lacks path bytes → ⊥
lacks_nothing path bytes few open_list (inl c) = open_list c
lacks_nothing [] bytes few open_list (inr (e, rest, a, is)) = cc
lacks_nothing (index ∷ path) bytes few open_list (inr (e, rest, a, is)) = absurd (omega (arith, few))

-- a path is its first index and the others
pub first_index : (path others : List ℕ) → 1 ≤ length path → others ≡ drop 1 path → path ≡ get_or path 0 0 ∷ others
first_index [] others some is = absurd (omega (arith, some))
first_index (index ∷ path) others some is = ap (λ l. index ∷ l) (sym is)

-- at the end of a path stands the part itself
pub part_here : (e : Expression) (path bytes from end : List ℕ) → length path < 1 → StandsAt e path bytes from end → (from ≡ after_whitespace bytes) × AreTokens (tokens_of e) bytes end
part_here e [] bytes from end few s = s
part_here e (index ∷ path) bytes from end few s = absurd (omega (arith, few))

ends_joined : (bytes middle end : List ℕ) → EndsWith bytes middle → EndsWith middle end → EndsWith bytes end
ends_joined bytes middle end a b = (a.0 ++ b.0, a.1 ∙ ap (λ l. a.0 ++ l) b.1 ∙ sym (append_assoc a.0 b.0 end))

-- an expression ends where bytes end
end_after : (e : Expression) (bytes end : List ℕ) → AreTokens (tokens_of e) bytes end → EndsWith (after_whitespace bytes) end
end_after (leaf x) bytes end a = tokens_end (atom x) [] bytes end a
end_after (list es) bytes end a = tokens_end opening _ bytes end a

mutual
  pub part_ends : (e : Expression) (path bytes from end : List ℕ) → StandsAt e path bytes from end → EndsWith bytes from × EndsWith from end
  part_ends e [] bytes from end (is, a) = (subst (EndsWith bytes) (sym is) (whitespace_prefix bytes), subst (λ l. EndsWith l end) (sym is) (end_after e bytes end a))
  part_ends (leaf x) (index ∷ path) bytes from end s = absurd s
  part_ends (list es) (index ∷ path) bytes from end (inside, a, s) =
      let among = item_ends es index path inside from end s in
      (ends_joined bytes inside from (tokens_prefix (opening ∷ []) bytes inside a) among.0, among.1)

  item_ends : (es : Expressions) (index : ℕ) (path bytes from end : List ℕ) → StandsAmong es index path bytes from end → EndsWith bytes from × EndsWith from end
  item_ends none index path bytes from end s = absurd s
  item_ends (more e es) zero path bytes from end s = part_ends e path bytes from end s
  item_ends (more e es) (suc index) path bytes from end (others, a, s) =
      let among = item_ends es index path others from end s in
      (ends_joined bytes others from (tokens_prefix (tokens_of e) bytes others a) among.0, among.1)

tokens_here : (e : Expression) (bytes end : List ℕ) → AreTokens (tokens_of e) bytes end → AreTokens (tokens_of e) (after_whitespace bytes) end
tokens_here (leaf x) bytes end a = tokens_at (atom x) [] bytes end a
tokens_here (list es) bytes end a = tokens_at opening _ bytes end a

-- the part itself is read after whitespace
pub part_read : (e : Expression) (path bytes from end l : List ℕ) → length path < 1 → StandsAt e path bytes from end → l ≡ after_whitespace bytes → AreTokens (tokens_of e) l end
part_read e path bytes from end l few s is = subst (λ xs. AreTokens (tokens_of e) xs end) (sym is) (tokens_here e bytes end (part_here e path bytes from end few s).1)

pub closing_read : (bytes l : List ℕ) → l ≡ after_whitespace bytes → BeginsClosing bytes → BeginsClosing l
closing_read bytes l is (rest, a) = subst BeginsClosing (sym is) (rest, tokens_at closing [] bytes rest a)

-- where a part stands, there it is read
abbrev Stands : Expression → List ℕ → List ℕ → Expression → Type 0
Stands e path bytes part = (from : List ℕ) × (end : List ℕ) × StandsAt e path bytes from end × AreTokens (tokens_of part) from end

mutual
  pub part_stands : (e : Expression) (path bytes rest : List ℕ) (part : Expression) → AreTokens (tokens_of e) bytes rest → part_of e path ≡ Some part → Stands e path bytes part
  part_stands e [] bytes rest part a is = (let same : e ≡ part = cc in (after_whitespace bytes, rest, (refl, a), subst (λ f. AreTokens (tokens_of f) (after_whitespace bytes) rest) same (tokens_here e bytes rest a)))
  part_stands (leaf x) (index ∷ path) bytes rest part a is = cc
  part_stands (list es) (index ∷ path) bytes rest part a is =
      let parts = split (tokens_of_each es) (closing ∷ []) a.0 rest a.2 in
      let among = item_stands es index path a.0 parts.0 part parts.1 is in
      (among.0, among.1, (a.0, (a.0, a.1, refl), among.2), among.3)

  item_stands : (es : Expressions) (index : ℕ) (path bytes rest : List ℕ) (part : Expression) → AreTokens (tokens_of_each es) bytes rest → part_among es index path ≡ Some part →
      (from : List ℕ) × (end : List ℕ) × StandsAmong es index path bytes from end × AreTokens (tokens_of part) from end
  item_stands none index path bytes rest part a is = cc
  item_stands (more e es) zero path bytes rest part a is =
      let parts = split (tokens_of e) (tokens_of_each es) bytes rest a in
      part_stands e path bytes parts.0 part parts.1 is
  item_stands (more e es) (suc index) path bytes rest part a is =
      let parts = split (tokens_of e) (tokens_of_each es) bytes rest a in
      let among = item_stands es index path parts.0 rest part parts.2 is in
      (among.0, among.1, (parts.0, parts.1, among.2), among.3)

-- the span of a part
pub span_of : (bytes from end : List ℕ) (start last : ℕ) → EndsWith bytes from → EndsWith from end → start ≡ length bytes - length from → last ≡ length bytes - length end →
    IsSpan bytes from end (record { start = start; end = last })
span_of bytes from end start last a b start_is last_is =
    let whole = ends_joined bytes from end a b in
    let size : length bytes ≡ length a.0 + length from = ap (λ (xs : List ℕ). length xs) a.1 ∙ length-append a.0 from in
    let part : length from ≡ length b.0 + length end = ap (λ (xs : List ℕ). length xs) b.1 ∙ length-append b.0 end in
    record {
      start = left_after bytes a.0 from start a.1 (omega (arith, start_is, size));
      end = left_after bytes whole.0 end last whole.1 (omega (arith, last_is, size, part));
      order = omega (arith, start_is, last_is, size, part);
      within = omega (arith, last_is, size, part);
    }
