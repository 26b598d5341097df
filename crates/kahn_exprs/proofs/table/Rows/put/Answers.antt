use Rattle.std.proofs.Common.{◌≡◌, subst, sym}
use Rattle.std.specs.Prelude.{false, nat_lt}
use Rattle.std.proofs.Common.{length}
use Rattle.kahn_exprs.specs.Standing.{Put, row}
use Rattle.kahn_exprs.proofs.Standing.{name_lengths, put_name, put_reset, put_start, put_var, reset_lengths, start_lengths, there_name, there_none, var_lengths}
use Rattle.kahn_exprs.proofs.table.Rows.put.Goals as goal

pub returns-in-Var : goal.returns-in-Var
returns-in-Var c = record {
  put = subst (λ k. Put c.args.self.now k c.args.i c.args.cell c.keep.result (record c.args.self.now { vars = c.keep.new.all })) (sym c.in-Var.is)
      (put_var c.args.self.now c.keep.new.all c.in-Var.x c.args.i c.args.cell c.keep.result c.keep.ensures.put);
  there = subst (λ k. c.keep.result ≡ nat_lt c.args.i (length (row c.args.self.now k))) (sym c.in-Var.is) c.keep.ensures.there;
  lengths = var_lengths c.args.self.now c.keep.new.all c.keep.ensures.lengths;
}

pub returns-in-Start : goal.returns-in-Start
returns-in-Start c = record {
  put = subst (λ k. Put c.args.self.now k c.args.i c.args.cell c.keep-in-Start.result (record c.args.self.now { starts = c.keep-in-Start.new.all })) (sym c.in-Start.is)
      (put_start c.args.self.now c.keep-in-Start.new.all c.in-Start.x c.args.i c.args.cell c.keep-in-Start.result c.keep-in-Start.ensures.put);
  there = subst (λ k. c.keep-in-Start.result ≡ nat_lt c.args.i (length (row c.args.self.now k))) (sym c.in-Start.is) c.keep-in-Start.ensures.there;
  lengths = start_lengths c.args.self.now c.keep-in-Start.new.all c.keep-in-Start.ensures.lengths;
}

pub returns-then-m-self-clause-there : goal.returns-then-m-self-clause-there
returns-then-m-self-clause-there c = subst (λ k. false ≡ nat_lt c.args.i (length (row c.args.self.now k))) (sym c.in-Name.is) (there_none c.args.self.now c.in-Name.m c.args.i c.if-m-self.true)

pub returns-else-m-self : goal.returns-else-m-self
returns-else-m-self c = record {
  put = subst (λ k. Put c.args.self.now k c.args.i c.args.cell c.keep-in-Name.result (record c.args.self.now { names = c.keep-in-Name.new.all })) (sym c.in-Name.is)
      (put_name c.args.self.now c.keep-in-Name.new.all c.in-Name.m c.args.i c.args.cell c.if-m-self.false c.keep-in-Name.result c.keep-in-Name.ensures.put);
  there = subst (λ k. c.keep-in-Name.result ≡ nat_lt c.args.i (length (row c.args.self.now k))) (sym c.in-Name.is)
      (there_name c.args.self.now c.in-Name.m c.args.i c.keep-in-Name.result c.if-m-self.false c.keep-in-Name.ensures.there);
  lengths = name_lengths c.args.self.now c.keep-in-Name.new.all c.keep-in-Name.ensures.lengths;
}

pub returns-in-Reset : goal.returns-in-Reset
returns-in-Reset c = record {
  put = subst (λ k. Put c.args.self.now k c.args.i c.args.cell c.keep-in-Reset.result (record c.args.self.now { resets = c.keep-in-Reset.new.all })) (sym c.in-Reset.is)
      (put_reset c.args.self.now c.keep-in-Reset.new.all c.in-Reset.r c.args.i c.args.cell c.keep-in-Reset.result c.keep-in-Reset.ensures.put);
  there = subst (λ k. c.keep-in-Reset.result ≡ nat_lt c.args.i (length (row c.args.self.now k))) (sym c.in-Reset.is) c.keep-in-Reset.ensures.there;
  lengths = reset_lengths c.args.self.now c.keep-in-Reset.new.all c.keep-in-Reset.ensures.lengths;
}
