use Rattle.std.proofs.Common.{◌≡◌, length, vec_len, sym, ◌∙◌, arith}
use Rattle.std.proofs.lemmas.Option.{slice_get_within}
use Rattle.indexmap.specs.IndexMap.{get}
use Rattle.ct_unique.specs.declared.found.Key.{Key}
use Rattle.ct_unique.specs.Found.{same_key}
use Rattle.ct_unique.proofs.FoundLemmas.{some_of, none_of, IsAdded-old, IsAdded-new}
use Rattle.ct_unique.proofs.found.add.Goals as goal

pub returns-then-has_place : goal.returns-then-has_place
returns-then-has_place c =
    let key : Key = record { left = c.rep.result; right = c.rep-2.result } in
    let place = some_of (get same_key c.args.found.now.places key) (sym c.has_place.ensures.value ∙ c.if-has_place.true) in
    record { added = IsAdded-old c.args.classes.now c.args.found.now.places c.args.found.now.pairs.items c.args.pair key c.rep.ensures.value c.rep-2.ensures.value c.requires.indexed place.0 place.1 }

pub returns : goal.returns
returns c =
    let state = c.args.classes.now in
    let key : Key = record { left = c.rep.result; right = c.rep-2.result } in
    let pairs = c.args.found.now.pairs in
    let absent = none_of (get same_key c.args.found.now.places key) (sym c.has_place.ensures.value ∙ c.if-has_place.false) in
    let left_in = slice_get_within state.reps c.rep.result.0 c.rep.result c.rep.ensures.own in
    let right_in = slice_get_within state.reps c.rep-2.result.0 c.rep-2.result c.rep-2.ensures.own in
    let count : vec_len pairs ≡ length pairs.items = omega (arith, pairs.ok.0) in
    record {
      added = IsAdded-new state c.args.found.now.places pairs.items c.args.pair key c.rep.ensures.value c.rep-2.ensures.value c.requires.indexed c.insert.new.self c.len.result c.in_ok-insert.ensures.updates.0 absent c.push.new.self.items (omega (arith, left_in, c.merges.ensures.long)) (omega (arith, right_in, c.merges.ensures.long)) (c.len.ensures ∙ count) c.in_ok-push.ensures.items;
    }
