use Rattle.std.specs.Prelude.{◌≡◌, refl, length, map}
use Rattle.std.proofs.Common.{ap₂, ◌∙◌}
use Rattle.std.proofs.lemmas.Option.{slice_get_past, slice_get_read}
use Rattle.node_lines.specs.Arguments as spec
use Rattle.node_lines.specs.Form.{asked}
use Rattle.node_lines.proofs.Lists.{ok_same, start_at, start_there}
use Rattle.node_lines.proofs.rows.clocked.Goals as goal

pub unreachable-requires : goal.unreachable-requires
unreachable-requires c =
    start_there c.args.params.now c.args.starts.now c.args.m c.args.t.now c.requires.begin c.requires.here (slice_get_past c.args.starts.now c.args.m c.in-None.ensures.lookup.3)

pub returns : goal.returns
returns c =
    let begin = slice_get_read c.args.starts.now (length c.args.starts.now) c.args.m c.in-Some.at.now refl c.in-Some.ensures.lookup.3.0 c.in-Some.ensures.lookup.1 in
    let on : c.as_slice.result.now ≡ asked c.args.params.now c.args.ck.now = c.as_slice.ensures.value ∙ c.in_ok-on.ensures in
    ok_same c.cells_at.result _ _
    (ap₂ (λ o a. map (spec.cell_in c.args.t.now o a) c.args.lines.now) on (start_at c.args.params.now c.args.starts.now c.args.m c.args.t.now c.in-Some.at.now c.requires.begin c.requires.here begin))
    c.cells_at.ensures
