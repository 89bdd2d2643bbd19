use Rattle.std.proofs.Common.{Result, Ok, Err, IfOk, MatchOption, subst, inl, inr}
use Rattle.ct_value_text.specs.ValueText.{IsTreeText, IsTooGreat}
use Rattle.ct_values.proofs.FittingLemmas.{minimal_fits}
use Rattle.ct_value_text.proofs.writing.value_text.Goals as goal

-- what follows of each value that a result has
where_ok : {X E : Type 0} (P Q : X → Type 0) (r : Result X E) → ((x : X) → P x → Q x) → IfOk r P → IfOk r Q
where_ok P Q (Ok x) give h = give x h
where_ok P Q (Err e) give h = h

pub returns-in-Some : goal.returns-in-Some
returns-in-Some c =
    let d = c.args.sig.now in
    let g = c.args.g.now in
    let root = c.args.root in
    record { text = inl (subst (λ found. MatchOption found (IsTooGreat g root) (λ text. IsTreeText d g root text.items)) c.in-Some.is c.in_ok-text.ensures.text) }

pub graph_text-requires : goal.graph_text-requires
graph_text-requires c = record { fits = minimal_fits c.args.sig.now c.args.g.now c.args.root c.in_ok-minimal.minimal c.requires.fits c.in_ok-minimal.ensures.minimal }

pub returns : goal.returns
returns c =
    let d = c.args.sig.now in
    let g = c.args.g.now in
    let root = c.args.root in
    let great : IsTooGreat g root = subst (λ found. MatchOption found (IsTooGreat g root) (λ text. IsTreeText d g root text.items)) c.in_default.is c.in_ok-text.ensures.text in
    record {
      text = where_ok _ _ c.graph_text.result (λ text text_is. inr (record {
        many = great;
        minimal = c.in_ok-minimal.minimal;
        is_minimal = c.in_ok-minimal.ensures.minimal;
        text_is = text_is;
      })) c.graph_text.ensures.text;
    }
