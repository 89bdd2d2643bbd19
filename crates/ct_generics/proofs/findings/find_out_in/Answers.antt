use Rattle.std.proofs.Common.{sym, ◌∙◌}
use Rattle.ct_generics.proofs.FindingLemmas.{long-large, large-long, unmarked-unfounded}
use Rattle.ct_generics.proofs.findings.find_out_in.Goals as goal

pub is_mixed-requires : goal.is_mixed-requires
is_mixed-requires c =
    let r = c.args.reached.now in
    let w = c.requires.whole in
    let tells = c.graphs.ensures.tells w.0 c.args.table.now r.ids r.graph r.starts w.1 c.len-single.ensures.single c.len-unlike.ensures.different c.requires.long w.3 in
    record { closed = rw c.as_slice-graph.ensures.value tells.closed; ends = rw c.as_slice-graph.ensures.value tells.ends }

pub returns-clause-size : goal.returns-clause-size
returns-clause-size c hs es all whole =
    let r = c.args.reached.now in
    let nodes = c.args.table.now in
    let counts = c.in_ok-counts.counts.items in
    let long = rw c.as_slice.ensures.value at c.has_long-large.ensures.long in (
      λ h. let found = long.0 h in long-large hs nodes r.ids r.graph r.starts es counts found.0 found.1 whole (c.in_ok-counts.ensures.counts hs all) found.2 found.3,
      λ some. long.1 (large-long hs nodes r.ids r.graph r.starts es c.len-single.ensures.single c.len-unlike.ensures.different whole c.requires.long counts c.in_ok-counts.ensures.long (c.in_ok-counts.ensures.counts hs all) c.requires.few some),
    )

pub returns-clause-mixing : goal.returns-clause-mixing
returns-clause-mixing c hs es all whole =
    let r = c.args.reached.now in
    let tells = c.graphs.ensures.tells hs c.args.table.now r.ids r.graph r.starts es c.len-single.ensures.single c.len-unlike.ensures.different c.requires.long whole in
    let mixed = rw c.as_slice-graph.ensures.value at c.in_ok-mixed.ensures.mixed in
    (λ h. tells.mixed.0 (mixed.0 h), λ some. mixed.1 (tells.mixed.1 some))

pub returns-clause-founding : goal.returns-clause-founding
returns-clause-founding c hs es all whole =
    let r = c.args.reached.now in
    let tells = c.graphs.ensures.tells hs c.args.table.now r.ids r.graph r.starts es c.len-single.ensures.single c.len-unlike.ensures.different c.requires.long whole in
    let founded = rw c.as_slice-graph.ensures.value at c.in_ok-marks.ensures.founded in
    let both = unmarked-unfounded hs c.args.table.now r.ids r.graph r.starts es c.in_ok-marks.marks.items whole tells founded in
    let value = rw (c.as_slice-2.ensures.value, c.as_slice-3.ensures.value) at c.has_unmarked-unfounded.ensures.value in
    (λ h. both.0 (sym value ∙ h), λ some. value ∙ both.1 some)
