use Rattle.std.proofs.Common.{subst}
use Rattle.ls_front.specs.Front.{IsInside}
use Rattle.lsc_cli.proofs.check.refuse_file.Goals as goal

pub refuse_tokens-requires : goal.refuse_tokens-requires
refuse_tokens-requires g c = subst IsInside c.in-Lex.is c.requires.inside

pub refuse_syntax-requires : goal.refuse_syntax-requires
refuse_syntax-requires g c = subst IsInside c.in-Syntax.is c.requires.inside

pub refuse_scope-requires : goal.refuse_scope-requires
refuse_scope-requires g c = subst IsInside c.in-Scope.is c.requires.inside

pub refuse_types-requires : goal.refuse_types-requires
refuse_types-requires g c = subst IsInside c.in-Types.is c.requires.inside

pub refuse_clocks-requires : goal.refuse_clocks-requires
refuse_clocks-requires g c = subst IsInside c.in-Clocks.is c.requires.inside

pub refuse_init-requires : goal.refuse_init-requires
refuse_init-requires g c = subst IsInside c.in-Init.is c.requires.inside
