use Rattle.std.proofs.Common.{◌++◌, ◌∷◌, [], sym, subst}
use Rattle.std.specs.Prelude.{List}
use Rattle.step_code.specs.declared.parts.Instr.{Instr}
use Rattle.step_code.specs.declared.parts.Instr.TheVariants.{When}
use Rattle.step_code.specs.Marks.{AreRegions, EndsInside}
use Rattle.step_code.proofs.RegionLemmas.{regions_open, regions_on, no_region, on_ok}
use Rattle.step_code.proofs.regions.open_region.Goals as goal

pub returns-in-When : goal.returns-in-When
returns-in-When c =
    on_ok c.push.result c.push.ensures.ok
    (λ more. let P = λ (l : Instr). AreRegions (c.args.earlier.now ++ l ∷ []) c.push.new.items.items in
    subst P (sym c.in-When.is)
    (let Q = λ (ends : List _). AreRegions (c.args.earlier.now ++ When c.in-When.field-0 c.in-When.size ∷ []) ends in
    subst Q (sym more)
    (regions_open c.args.earlier.now c.args.ends.now.items c.requires.regions c.in-When.field-0 c.in-When.size c.requires.reach
    (subst (λ (l : Instr). EndsInside c.args.earlier.now l) c.in-When.is c.requires.inside))))

pub returns-in_default : goal.returns-in_default
returns-in_default c = regions_on c.args.earlier.now c.args.ends.now.items c.requires.regions c.args.line.now (no_region c.args.line.now c.in_default.not-When)
