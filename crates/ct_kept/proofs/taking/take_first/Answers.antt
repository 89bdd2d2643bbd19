use Rattle.std.proofs.Common.{◌≡◌, ◌∙◌, ℕ, zero, suc, ◌+◌, ◌≤◌, nat_eq, false, true≢false, List, ◌++◌, All, length, take, drop, sym, ap, subst, inr, arith}
use Rattle.std.specs.List.{flat_map}
use Rattle.std.proofs.lemmas.List.{drop-drop}
use Rattle.ct_terms.specs.Terms.{Terms}
use Rattle.ct_restriction.specs.Renumbered.{HasNoRoom}
use Rattle.ct_log.specs.declared.line.Line.{Line}
use Rattle.ct_kept.specs.declared.lemma.Lemma.{Lemma}
use Rattle.ct_kept.specs.Lemmas.{lemma_terms, IsAcceptedLemma, theory_lemmas}
use Rattle.ct_kept.specs.Kept.{Stored, TakesAll}
use Rattle.ct_kept.proofs.TakenLemmas.{first_accepted, later_accepted, taken_more, lines_more, next_without_room}
use Rattle.ct_kept.proofs.taking.take_first.Goals as goal
use Rattle.ct_kept.proofs.taking.take_first.Goals.{then-branch, else-branch+else-count-eq1}

-- what is not zero
above_zero : (n : ℕ) → nat_eq n 0 ≡ false → 1 ≤ n
above_zero zero e = absurd (true≢false e)
above_zero (suc n) e = omega arith

pub take_all-requires-clause-accepted : goal.take_all-requires-clause-accepted
take_all-requires-clause-accepted c =
    subst (λ (ls : List Line). All (IsAcceptedLemma c.args.sig.now c.args.terms.now) (theory_lemmas ls)) (sym c.beginning.ensures.value)
    (first_accepted c.args.sig.now c.args.terms.now c.min-count.result c.loop-rest.rest.now c.loop-rest.invariant.accepted)

pub returns-then-count-eq1-clause-taken : goal.returns-then-count-eq1-clause-taken
returns-then-count-eq1-clause-taken c =
    let inv = c.loop-rest.invariant in
    let out = rw c.if-branch.false at c.in_ok-take_all.ensures.taken in
    let one : c.min-count.result ≡ 1 = omega (arith, c.if-count-eq1.true) in
    let lines : theory_lemmas c.beginning.result.now ≡ theory_lemmas (take 1 (drop inv.done c.args.lines.now)) =
    ap theory_lemmas (c.beginning.ensures.value ∙ (ap (λ n. take n c.loop-rest.rest.now) one ∙ ap (take 1) inv.rest)) in
    record {
      done = inv.done;
      takes = subst (λ (s : Stored). TakesAll (record { table = c.args.table.now; lemmas = c.args.lemmas.now.items }) c.args.terms.now (theory_lemmas (take inv.done c.args.lines.now)) s) (sym out.same) inv.takes;
      stops = inr (next_without_room c.args.lines.now inv.done 1 c.args.terms.now c.take_all.new.table
          (λ none. out.some (lines ∙ none))
          (subst (λ (ts : Terms). HasNoRoom ts c.args.terms.now (flat_map lemma_terms (theory_lemmas (take 1 (drop inv.done c.args.lines.now))))) (sym (ap (λ (s : Stored). s.table) out.same))
          (subst (λ (ls : List Lemma). HasNoRoom c.loop-rest.table c.args.terms.now (flat_map lemma_terms ls)) lines out.no_room)));
    }

pub loop-rest-preserved : goal.loop-rest-preserved
loop-rest-preserved c =
    let inv = c.loop-rest.invariant in
    let count = c.min-count.result in
    let terms = c.args.terms.now in
    let lines = c.args.lines.now in
    let start : Stored = record { table = c.args.table.now; lemmas = c.args.lemmas.now.items } in
    let before : Stored = record { table = c.loop-rest.table; lemmas = c.loop-rest.lemmas.items } in
    let after : Stored = record { table = c.take_all.new.table; lemmas = c.take_all.new.lemmas.items } in
    let ensured = c.in_ok-take_all.ensures in
    let there : 1 ≤ length c.loop-rest.rest.now = above_zero (length c.loop-rest.rest.now) (sym c.is_empty.ensures ∙ c.loop-rest-test.true) in
    let some : 1 ≤ c.half-size.result = c.half-size.ensures.some (inv.some there) in
    elim c.if-branch.branch [
      | then-branch w ↦
          let all = rw w.if-branch.true at ensured.taken in
          let first : theory_lemmas c.beginning.result.now ≡ theory_lemmas (take count (drop inv.done lines)) = ap theory_lemmas (c.beginning.ensures.value ∙ ap (take count) inv.rest) in
          let taken : TakesAll before terms (theory_lemmas (take count (drop inv.done lines))) after = subst (λ (ls : List Lemma). TakesAll before terms ls after) first all in
          let both : TakesAll start terms (theory_lemmas (take inv.done lines) ++ theory_lemmas (take count (drop inv.done lines))) after =
          taken_more terms (theory_lemmas (take inv.done lines)) (theory_lemmas (take count (drop inv.done lines))) start before after inv.takes taken w.len-terms.ensures.ordered in
          rw w.rest-is record {
            done = inv.done + count;
            rest = w.after-rest.ensures.value ∙ ap (drop count) inv.rest ∙ drop-drop count inv.done lines;
            takes = subst (λ (ls : List Lemma). TakesAll start terms ls after) (sym (lines_more lines inv.done count)) both;
            some = λ more. some;
            sorted = ensured.sorted;
            accepted = subst (λ (ls : List Line). All (IsAcceptedLemma c.args.sig.now terms) (theory_lemmas ls)) (sym w.after-rest.ensures.value) (later_accepted c.args.sig.now terms count c.loop-rest.rest.now inv.accepted);
            over = λ over. ensured.over (inv.over over);
          }
      | else-branch+else-count-eq1 w ↦
          let out = rw w.if-branch.false at ensured.taken in
          rw w.rest-is record {
            done = inv.done;
            rest = inv.rest;
            takes = subst (λ (s : Stored). TakesAll start terms (theory_lemmas (take inv.done lines)) s) (sym out.same) inv.takes;
            some = λ more. some;
            sorted = ensured.sorted;
            accepted = inv.accepted;
            over = λ over. ensured.over (inv.over over);
          }
    ]
