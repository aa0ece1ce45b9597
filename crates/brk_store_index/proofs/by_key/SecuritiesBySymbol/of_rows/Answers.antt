use Rattle.std.proofs.Common.{map, subst, sym, take}
use Rattle.std.proofs.lemmas.List.{take_all}
use Rattle.brk_ref.specs.Records.{abstract_security_row}
use Rattle.brk_store_index.specs.ByKey.{AreSecuritiesOf}
use Rattle.brk_store_index.proofs.ByKeys.{security_pushed}
use Rattle.brk_store_index.proofs.Elements.{mapped_more}
use Rattle.brk_store_index.proofs.by_key.SecuritiesBySymbol.of_rows.Goals as goal

pub loop-row-preserved : goal.loop-row-preserved
loop-row-preserved c =
    let rows = c.args.rows.now in
    let i = c.loop-row.row-index in
    subst (AreSecuritiesOf c.add.new.self) (sym (mapped_more abstract_security_row rows i c.row-item.result c.loop-row-test.true c.row-item.is))
    (security_pushed c.loop-row.securities c.add.new.self (abstract_security_row c.row-item.result) (map abstract_security_row (take i rows)) c.in_ok-add.ensures c.loop-row.invariant)

pub returns : goal.returns
returns c = subst (λ l. AreSecuritiesOf c.loop-row.securities (map abstract_security_row l)) (take_all c.loop-row.row-index c.args.rows.now c.loop-row-test.false) c.loop-row.invariant
