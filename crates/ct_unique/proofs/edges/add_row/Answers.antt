use Rattle.std.proofs.Common.{[], List, length, sym, ap, subst, append-nil, arith}
use Rattle.std.specs.List.{AllZip}
use Rattle.std.proofs.lemmas.Option.{slice_get_within}
use Rattle.ct_terms.specs.declared.ids.TermId.{TermId}
use Rattle.ct_terms.specs.declared.term.Core.TheVariants.{Con}
use Rattle.ct_terms.specs.Terms.{Has}
use Rattle.ct_unique.specs.Nodes.{IsRepNumber}
use Rattle.ct_unique.proofs.ClassLemmas.{IsRow-bare, IsRow-of}
use Rattle.ct_unique.proofs.edges.add_row.Goals as goal

pub returns-in_default : goal.returns-in_default
returns-in_default c = record {
  row = record {
    row = [];
    added = sym (append-nil c.args.children.now.items);
    is = IsRow-bare c.args.classes.now c.args.t c.in_default.ensures.none;
  };
}

pub core-requires : goal.core-requires
core-requires c =
    let built = c.in-Some.ensures.found.built in
    let inside = slice_get_within c.args.classes.now.terms c.in-Some.con.0 (Con built.0 built.1, built.2.0) built.2.1 in
    record { within = omega (arith, inside, ap length c.table-table.ensures.value) }

pub add_reps-requires : goal.add_reps-requires
add_reps-requires c =
    let inside = rw (c.in-Con.is, c.table-table.ensures.value) at c.core.ensures.inside in
    record { inside = rw c.as_slice.ensures.value inside }

pub returns : goal.returns
returns c =
    let state = c.args.classes.now in
    let con = c.in-Some.con in
    let args = c.in-Con.args in
    let stands : Has state.terms (Con c.in-Con.field-0 args) con.0 = rw (c.in-Con.is, c.table-table.ensures.value) at c.core.ensures.value in
    let new = c.in_ok-add_reps.ensures.added in
    let each : AllZip (IsRepNumber state.reps) args new.row = subst (λ (list : List TermId). AllZip (IsRepNumber state.reps) list new.row) c.as_slice.ensures.value new.each in
    record {
      row = record {
        row = new.row;
        added = new.added;
        is = IsRow-of state c.args.t con c.in-Con.field-0 args new.row c.in-Some.ensures.found stands each;
      };
    }
