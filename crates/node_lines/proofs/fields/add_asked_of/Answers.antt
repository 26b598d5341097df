use Rattle.std.specs.Prelude.{refl, length}
use Rattle.std.proofs.lemmas.Option.{slice_get_past, slice_get_read}
use Rattle.node_lines.proofs.Lists.{none_asked, some_asked, start_at, start_there}
use Rattle.node_lines.proofs.fields.add_asked_of.Goals as goal

pub returns-in-None : goal.returns-in-None
returns-in-None c = none_asked c.args.params.now c.args.m c.args.k c.args.done.now (slice_get_past c.args.params.now c.args.m c.in-None.ensures.lookup.3)

pub returns-in-None-get : goal.returns-in-None-get
returns-in-None-get c =
    absurd (start_there c.args.params.now c.args.starts.now c.args.m c.in-Some.t.now c.requires
    (slice_get_read c.args.params.now (length c.args.params.now) c.args.m c.in-Some.t.now refl c.in-Some.ensures.lookup.3.0 c.in-Some.ensures.lookup.1)
    (slice_get_past c.args.starts.now c.args.m c.in-None-get.ensures.lookup.3))

pub returns-in-Some-get : goal.returns-in-Some-get
returns-in-Some-get c =
    let here = slice_get_read c.args.params.now (length c.args.params.now) c.args.m c.in-Some.t.now refl c.in-Some.ensures.lookup.3.0 c.in-Some.ensures.lookup.1 in
    let begin = slice_get_read c.args.starts.now (length c.args.starts.now) c.args.m c.in-Some-get.at.now refl c.in-Some-get.ensures.lookup.3.0 c.in-Some-get.ensures.lookup.1 in
    some_asked c.args.params.now c.args.m c.args.k c.push.result c.push.new.self c.args.done.now c.in-Some.t.now c.in-Some-get.at.now c.case_leaf.result here
    (start_at c.args.params.now c.args.starts.now c.args.m c.in-Some.t.now c.in-Some-get.at.now c.requires here begin) c.case_leaf.ensures c.push.ensures.ok
