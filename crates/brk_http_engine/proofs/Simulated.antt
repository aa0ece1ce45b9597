-- Facts about the states of a desk hold for the bases that it represents.
use Rattle.std.proofs.Common.{ℕ, ◌+◌, List, [], ◌∷◌, refl, sym, subst}
use Rattle.brk_money.specs.Spelling.{Text}
use Rattle.brk_model.specs.Run.{Call, Outcome}
use Rattle.brk_model_http.specs.Asked.{RequestParsers, RequestDemand, ResponseOnly, DeskCall, demand_of_request}
use Rattle.brk_model_http.specs.Found.{RequestReading, NoBytesLeft, Unreadable, CompleteRequest}
use Rattle.brk_model_http.specs.Replies.{Response}
use Rattle.brk_model_http.specs.Stream.{CallRelation, StreamState, Finished, Continues, RequestEffect, IsEffectOfFirstRequest, IsEffectOfReading}
use Rattle.brk_model_http.specs.Stream.{AreRepliesOfStream, AreFirstReplies, IsResponseToDemand}
use Rattle.brk_http_engine.proofs.Effects.{effect_of, effect_between}

module _ {D B : Type 0} (forms : RequestParsers) (acts : CallRelation D) (does : CallRelation B) (meets_disk_assumption : D → Type 0) (represents : D → B → Type 0)
    (earlier : (old : D) (now : ℕ) (call : Call) (outcome : Outcome) (new : D) → acts old now call outcome new → meets_disk_assumption new → meets_disk_assumption old)
    (steps : (old : D) (now : ℕ) (call : Call) (outcome : Outcome) (new : D) → acts old now call outcome new → meets_disk_assumption new → (base : B) → represents old base
    → (after : B) × represents new after × does base now call outcome after) where
  -- If the disk assumption holds for `new`, it holds for `old`, and for every base that `old`
  -- represents, `new` represents a base that `P` relates to it.
  abbrev RefinesFromEveryBase : D → D → (B → B → Type 0) → Type 0
  RefinesFromEveryBase old new P = meets_disk_assumption new → meets_disk_assumption old × ((base : B) → represents old base → (after : B) × represents new after × P base after)

  responds : (asked : RequestDemand) (old new : D) (taken : List ℕ) (response : Response) → IsResponseToDemand acts asked old taken response new
      → RefinesFromEveryBase old new (λ base after. IsResponseToDemand does asked base taken response after)
  responds (ResponseOnly said) old new taken response (is, none, same) good =
      (subst meets_disk_assumption same good, λ base stood. (base, subst (λ d. represents d base) (sym same) stood, (is, none, refl)))
  responds (DeskCall call) old new taken response (now, outcome, is, took, acted) good =
      (earlier old now call outcome new acted good, λ base stood. let h = steps old now call outcome new acted good base stood in (h.0, h.1, (now, outcome, is, took, h.2)))

  replied : (n : ℕ) (found : RequestReading) (effect : RequestEffect D) → IsEffectOfReading forms acts n found effect
      → RefinesFromEveryBase effect.base effect.after (λ base after. IsEffectOfReading forms does n found (effect_between effect base after))
  replied n NoBytesLeft effect h good = elim h [ ]
  replied n (Unreadable problem) effect (is, ends, none, same) good =
      (subst meets_disk_assumption same good, λ base stood. (base, subst (λ d. represents d base) (sym same) stood, (is, ends, none, refl)))
  replied n (CompleteRequest request rest) effect h good =
      let r = responds (demand_of_request forms request) effect.base effect.after effect.moments h.response h.responds good in (
        r.0,
        λ base stood. let k = r.1 base stood in
            (k.0, k.1, record { response = h.response; closes = h.closes; responds = k.2; last = h.last; bytes = h.bytes; follows = h.follows }),
      )

  pub one : (n : ℕ) (input : Text) (effect : RequestEffect D) → IsEffectOfFirstRequest forms acts n input effect
      → RefinesFromEveryBase effect.base effect.after (λ base after. IsEffectOfFirstRequest forms does n input (effect_between effect base after))
  one n input effect h good =
      let r = replied n h.found effect h.replied good in
      (r.0, λ base stood. let k = r.1 base stood in (k.0, k.1, record { found = h.found; finds = h.finds; replied = k.2 }))

  -- the replies of a stream over a desk are those over each base that it stood for
  pub replies_carry : (rs : List Text) (n : ℕ) (next : StreamState) (old new : D) (moments : List ℕ) → AreRepliesOfStream forms acts n next old moments rs new
      → RefinesFromEveryBase old new (λ base after. AreRepliesOfStream forms does n next base moments rs after)
  replies_carry rs n Finished old new moments (none, asked, same) good =
      (subst meets_disk_assumption same good, λ base stood. (base, subst (λ d. represents d base) (sym same) stood, (none, asked, refl)))
  replies_carry [] n (Continues input) old new moments (none, asked, same) good =
      (subst meets_disk_assumption same good, λ base stood. (base, subst (λ d. represents d base) (sym same) stood, (none, asked, refl)))
  replies_carry (reply ∷ rs) n (Continues input) old new moments (taken, more, next, mid, split, first, others) good =
      let later = replies_carry rs (n + 1) next mid new more others good in
      let now = one n input (effect_of old taken reply next mid) first later.0 in (
        now.0,
        λ base stood.
            let k = now.1 base stood in
            let l = later.1 k.0 k.1 in
            (l.0, l.1, (taken, more, next, k.0, split, k.2, l.2)),
      )

  -- and so are the first replies
  pub begins_carry : (rs : List Text) (n : ℕ) (input rest : Text) (old new : D) (moments : List ℕ) → AreFirstReplies forms acts n input old moments rs rest new
      → RefinesFromEveryBase old new (λ base after. AreFirstReplies forms does n input base moments rs rest after)
  begins_carry [] n input rest old new moments (is, asked, same) good =
      (subst meets_disk_assumption same good, λ base stood. (base, subst (λ d. represents d base) (sym same) stood, (is, asked, refl)))
  begins_carry (reply ∷ rs) n input rest old new moments (taken, more, left, mid, split, first, others) good =
      let later = begins_carry rs (n + 1) left rest mid new more others good in
      let now = one n input (effect_of old taken reply (Continues left) mid) first later.0 in (
        now.0,
        λ base stood.
            let k = now.1 base stood in
            let l = later.1 k.0 k.1 in
            (l.0, l.1, (taken, more, left, k.0, split, k.2, l.2)),
      )
