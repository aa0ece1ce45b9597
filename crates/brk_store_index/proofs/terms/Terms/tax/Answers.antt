use Rattle.std.proofs.Common.{◌∙◌, ◌==◌, Bool, ap, find, map}
use Rattle.brk_model.specs.Records.{TaxRate}
use Rattle.brk_ref.specs.Records.{abstract_tax_rate}
use Rattle.brk_store_index.proofs.Ranking.{ok_so}
use Rattle.brk_store_index.proofs.terms.Terms.tax.Goals as goal

pub returns : goal.returns
returns c =
    let test : TaxRate → Bool = λ r. r.id == c.args.id in
    ok_so _ _ c.find_tax.result (λ found is t are. is ∙ ap (λ l. find test (map abstract_tax_rate l)) c.deref.ensures.value ∙ ap (find test) are.tax_rows) c.find_tax.ensures
