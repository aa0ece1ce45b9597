use Rattle.std.proofs.Common.{◌≡◌, ◌∙◌, ◌++◌, ◌<◌, ◌≤◌, ◌∷◌, [], ap, arith, get_or, length, map, rules, sym}
use Rattle.std.proofs.lemmas.List.{map-append, take_all}
use Rattle.brk_ref.specs.Records.{abstract_customer_tax}
use Rattle.brk_store_index.specs.Terms.{customer_tax_of_age}
use Rattle.brk_store_index.proofs.Elements.{mapped_more}
use Rattle.brk_store_index.proofs.terms.taxes_of_ages.Goals as goal

pub loop-place-init : goal.loop-place-init
loop-place-init c = record { all = ap (map abstract_customer_tax) c.new-all.ensures.items; within = omega arith }

pub loop-place-preserved : goal.loop-place-preserved
loop-place-preserved c =
    let items = c.args.ages.now.items in
    let n = c.loop-place.place in
    let age = c.index.result.now in
    let here : age ≡ get_or items n age = search rules in
    let inside : n < length items = omega arith in
    record {
      all = ap (map abstract_customer_tax) c.in_ok-push.ensures.items ∙ map-append abstract_customer_tax c.loop-place.all.items (_ ∷ [])
          ∙ ap (λ l. l ++ customer_tax_of_age c.args.customer age ∷ []) c.loop-place.invariant.all ∙ sym (mapped_more (customer_tax_of_age c.args.customer) items n age inside here);
      within = omega arith;
    }

pub returns : goal.returns
returns c =
    let items = c.args.ages.now.items in
    let all : length items ≤ c.loop-place.place = omega arith in
    c.loop-place.invariant.all ∙ ap (map (customer_tax_of_age c.args.customer)) (take_all c.loop-place.place items all)
