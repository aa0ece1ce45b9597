use Rattle.std.proofs.Common.{◌≡◌, ◌==◌, ◌∙◌, ◌+◌, ◌<◌, ℕ, List, [], ◌∷◌, ◌++◌, Some, ap, filter, find, get_or, length, map, option_map, refl, sym, take}
use Rattle.std.proofs.lemmas.List.{map-append, take_all, take_more}
use Rattle.brk_money.specs.declared.fault.CallFault.{CallFault}
use Rattle.brk_model.specs.Records.{CustomerTax, TaxRate}
use Rattle.brk_model.specs.Tables.{Tables}
use Rattle.brk_ref.specs.Records.{abstract_customer_tax, abstract_tax_rate}
use Rattle.brk_ref.specs.declared.customer_tax.CustomerTax as ref
use Rattle.brk_ref.specs.declared.tax.Tax.{Tax}
use Rattle.brk_trade_books.specs.Reads.{tax_rate_with_id}
use Rattle.brk_store_reads.proofs.Retelling.{retold}
use Rattle.std.proofs.lemmas.Result.{err_from_is_err_and}
use Rattle.brk_store_reads.specs.ReadSequences.{single_read_changes_nothing}
use Rattle.brk_store_reads.proofs.Sequences.{failed_after, none_read, read_with, unchanged_after}
use Rattle.brk_desk_decisions.proofs.terms.read_taxes.Goals as goal

-- the first rows, which are a customer's, have the taxes that were read
abbrev FirstTaxes : ℕ → List ref.CustomerTax → List Tax → ℕ → Tables → Type 0
FirstTaxes customer rows taxes i t =
    (map abstract_customer_tax rows ≡ filter (λ (r : CustomerTax). r.customer == customer) t.customer_taxes)
    × (map (λ tax. Some (abstract_tax_rate tax)) taxes ≡ map (λ r. tax_rate_with_id t r.tax) (take i rows))

one_more : {X Y Z : Type 0} (f : X → Z) (g : Y → Z) (xs : List X) (ys : List Y) (i : ℕ) (x : X) (y : Y) → i < length ys → y ≡ get_or ys i y → f x ≡ g y
    → map f xs ≡ map g (take i ys) → map f (xs ++ x ∷ []) ≡ map g (take (i + 1) ys)
one_more f g xs ys i x y inside is same e =
    map-append f xs (x ∷ []) ∙ ap (λ zs. zs ++ f x ∷ []) e ∙ ap (λ z. map g (take i ys) ++ z ∷ []) same ∙ sym (map-append g (take i ys) (y ∷ []))
    ∙ ap (map g) (ap (λ z. take i ys ++ z ∷ []) is ∙ sym (take_more ys i y inside))

twice : {X Y Z : Type 0} (f : X → Y) (g : Y → Z) (xs : List X) → map (λ x. g (f x)) xs ≡ map g (map f xs)
twice f g [] = refl
twice f g (x ∷ xs) = ap (λ zs. g (f x) ∷ zs) (twice f g xs)

pub loop-row-init : goal.loop-row-init
loop-row-init g c =
    retold g.S.Store c.args.store.now c.taxes_of_customer.new.self c.in_ok-rows.rows tt
    (λ all (t : Tables). map abstract_customer_tax all.items ≡ filter (λ (r : CustomerTax). r.customer == c.args.customer) t.customer_taxes)
    (λ _. FirstTaxes c.args.customer c.deref-row-items.result.now c.new-taxes.result.items 0)
    (λ t e. (ap (map abstract_customer_tax) c.deref-row-items.ensures.value ∙ e, ap (map (λ tax. Some (abstract_tax_rate tax))) c.new-taxes.ensures.items))
    c.in_ok-rows.ensures.read

pub loop-row-preserved : goal.loop-row-preserved
loop-row-preserved g c =
    let rows = c.deref-row-items.result.now in
    let i = c.loop-row.row-index in
    let tax = c.in-Some.tax in
    read_with g.S.Store c.args.store.now c.loop-row.store c.tax_with_id.new.self {H = CallFault} tt (Some tax) tt
    (λ _. FirstTaxes c.args.customer rows c.loop-row.taxes.items i)
    (λ o (t : Tables). option_map abstract_tax_rate o ≡ find (λ (r : TaxRate). r.id == c.row-item.result.tax) t.tax_rates)
    (λ _. FirstTaxes c.args.customer rows c.push.new.self.items (i + 1))
    (λ t p e. (
      p.0,
      ap (map (λ tax. Some (abstract_tax_rate tax))) (c.in_ok-push.ensures.items)
          ∙ one_more (λ tax. Some (abstract_tax_rate tax)) (λ r. tax_rate_with_id t r.tax) c.loop-row.taxes.items rows i tax c.row-item.result c.loop-row-test.true c.row-item.is e p.1,
    ))
    c.loop-row.invariant (rw c.in-Some.is at c.in_ok-tax.ensures.read)

pub returns : goal.returns
returns g c =
    let rows = c.deref-row-items.result.now in
    let i = c.loop-row.row-index in
    retold g.S.Store c.args.store.now c.loop-row.store tt c.loop-row.taxes
    (λ _. FirstTaxes c.args.customer rows c.loop-row.taxes.items i)
    (λ taxes (t : Tables). map (λ tax. Some (abstract_tax_rate tax)) taxes.items
    ≡ map (λ (r : CustomerTax). tax_rate_with_id t r.tax) (filter (λ (r : CustomerTax). r.customer == c.args.customer) t.customer_taxes))
    (λ t p. p.1 ∙ ap (map (λ r. tax_rate_with_id t r.tax)) (take_all i rows c.loop-row-test.false)
    ∙ twice abstract_customer_tax (λ (r : CustomerTax). tax_rate_with_id t r.tax) rows ∙ ap (map (λ (r : CustomerTax). tax_rate_with_id t r.tax)) p.0)
    c.loop-row.invariant

pub returns-in_err-tax : goal.returns-in_err-tax
returns-in_err-tax g c =
    let old = c.args.store.now in
    let p = err_from_is_err_and c.from_residual-in_err-tax.result c.from_residual-in_err-tax.ensures.1 in
    rw p.1 (failed_after g.S.Store old c.loop-row.store c.tax_with_id.new.self _ p.0 _ _ (single_read_changes_nothing old c.loop-row.store _ _ c.loop-row.invariant) c.in_err-tax.ensures.read)

pub returns-in_err-push : goal.returns-in_err-push
returns-in_err-push g c =
    let old = c.args.store.now in
    let p = err_from_is_err_and c.from_residual-in_err-push.result c.from_residual-in_err-push.ensures.1 in
    rw p.1 (none_read g.S.Store old c.tax_with_id.new.self p.0 _
    (unchanged_after g.S.Store old c.loop-row.store c.tax_with_id.new.self _ _ (single_read_changes_nothing old c.loop-row.store _ _ c.loop-row.invariant)
    c.in_ok-tax.ensures.read))

pub returns-in_default : goal.returns-in_default
returns-in_default g c =
    let old = c.args.store.now in
    none_read g.S.Store old c.tax_with_id.new.self _ _
    (unchanged_after g.S.Store old c.loop-row.store c.tax_with_id.new.self _ _ (single_read_changes_nothing old c.loop-row.store _ _ c.loop-row.invariant)
    c.in_ok-tax.ensures.read)
