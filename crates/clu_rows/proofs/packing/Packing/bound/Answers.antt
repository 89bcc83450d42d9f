use Rattle.clu_rows.proofs.PackBound.{limit_fits, parts_fit}
use Rattle.clu_rows.proofs.Sound.{packing_rows}
use Rattle.clu_rows.proofs.packing.Packing.bound.Goals as goal

pub row_limit-covered-requires : goal.row_limit-covered-requires
row_limit-covered-requires g c = (packing_rows _ c.requires.state c.args.self.now.rows c.requires.packing).small

pub overflow_cast-covered : goal.overflow_cast-covered
overflow_cast-covered g c = limit_fits _ c.args.self.now.rows c.row_limit-covered.result c.requires.state c.requires.packing c.row_limit-covered.ensures

pub overflow_add-result : goal.overflow_add-result
overflow_add-result g c =
    (parts_fit (g.S.Situation.state c.args.state.now) c.args.self.now.rows c.fixed_value.result c.excess-uncovered.result c.row_limit-covered.result c.requires.state c.requires.packing c.fixed_value.ensures c.row_limit-covered.ensures (c.excess-uncovered.ensures _ c.requires)).inner

pub overflow_add-result-2 : goal.overflow_add-result-2
overflow_add-result-2 g c =
    (parts_fit (g.S.Situation.state c.args.state.now) c.args.self.now.rows c.fixed_value.result c.excess-uncovered.result c.row_limit-covered.result c.requires.state c.requires.packing c.fixed_value.ensures c.row_limit-covered.ensures (c.excess-uncovered.ensures _ c.requires)).outer

pub returns : goal.returns
returns g c =
    (parts_fit (g.S.Situation.state c.args.state.now) c.args.self.now.rows c.fixed_value.result c.excess-uncovered.result c.row_limit-covered.result c.requires.state c.requires.packing c.fixed_value.ensures c.row_limit-covered.ensures (c.excess-uncovered.ensures _ c.requires)).value
