-- From the effects of a stream on the states of a desk to the promises of the stream.
use Rattle.std.proofs.Common.{◌≡◌, ℕ, ◌+◌, List, [], ◌∷◌, length, Option, refl, sym, subst, inl, inr}
use Rattle.std.specs.Prelude.{Result, Ok, Err}
use Rattle.brk_money.specs.Spelling.{Text}
use Rattle.brk_model.specs.Run.{Call, Outcome}
use Rattle.brk_io.specs.Calls.{IsCallSequence}
use Rattle.brk_io.specs.Span.{IsUnchangedEnvironment, ClockAndWriterChange, EnvironmentChange, environment_change_with_bases}
use Rattle.brk_model_http.specs.Asked.{RequestParsers, RequestDemand, ResponseOnly, DeskCall, demand_of_request}
use Rattle.brk_model_http.specs.Found.{RequestReading, NoBytesLeft, Unreadable, CompleteRequest}
use Rattle.brk_model_http.specs.Replies.{Response}
use Rattle.brk_model_http.specs.Stream.{CallRelation, StreamState, Finished, Continues, RequestEffect, IsEffectOfFirstRequest, IsEffectOfReading}
use Rattle.brk_model_http.specs.Stream.{AreRepliesOfStream, AreFirstReplies, IsResponseToDemand}
use Rattle.brk_http_engine.proofs.Effects.{effect_of, effect_between}
use Rattle.brk_http_engine.specs.Promises.{StreamRefinesModel, CallScript, StreamMatchesScript, IsNextScriptedCall}
use Rattle.brk_http_engine.specs.Turns.{ExchangeHasReply, ExchangeFailsWith, IsStreamResult}
use Rattle.brk_io.specs.declared.stream_fault.ServeFault.{ServeFault}
use Rattle.brk_io.specs.declared.stream_fault.FaultKind.{FaultKind}
use Rattle.brk_io.specs.declared.stream_fault.FaultKind.TheVariants as kinds
use Rattle.brk_http_engine.proofs.Simulated as sim

-- The change between two states of the desk, the clock and the writer.
abbrev change_between : {B C : Type 0} → B → B → C → C → Option Text → Option Text → EnvironmentChange B C
change_between base after clock later was now = record { base = base; after = after; clock = clock; later = later; old = was; new = now }

-- ---- over the bases that a desk represents

module _ {D B C : Type 0} (forms : RequestParsers) (acts : CallRelation D) (does : CallRelation B) (meets_disk_assumption : D → Type 0) (represents : D → B → Type 0)
    (earlier : (old : D) (now : ℕ) (call : Call) (outcome : Outcome) (new : D) → acts old now call outcome new → meets_disk_assumption new → meets_disk_assumption old)
    (steps : (old : D) (now : ℕ) (call : Call) (outcome : Outcome) (new : D) → acts old now call outcome new → meets_disk_assumption new → (base : B) → represents old base
    → (after : B) × represents new after × does base now call outcome after) (gives : C → ℕ → C → Type 0) where
  -- If the disk assumption holds for `new`, it holds for `old`, and for every base that `old`
  -- represents, `new` represents a base that `P` relates to it.
  abbrev RefinesFromEveryBase : D → D → (B → B → Type 0) → Type 0
  RefinesFromEveryBase old new P = meets_disk_assumption new → meets_disk_assumption old × ((base : B) → represents old base → (after : B) × represents new after × P base after)

  answered_carries : (n : ℕ) (input : Text) (old new : D) (clock later : C) (was now : Option Text) (reply : Text) (next : StreamState)
      → ExchangeHasReply forms acts gives n input (change_between old new clock later was now) reply next
      → RefinesFromEveryBase old new (λ base after. ExchangeHasReply forms does gives n input (change_between base after clock later was now) reply next)
  answered_carries n input old new clock later was now reply next h good =
      let r = sim.one forms acts does meets_disk_assumption represents earlier steps n input (effect_of old h.taken reply next new) h.one good in
      (r.0, λ base stood. let k = r.1 base stood in (k.0, k.1, record { taken = h.taken; moments = h.moments; one = k.2 }))

  untouched_carries : (old new : D) (clock later : C) (was now : Option Text) → IsUnchangedEnvironment (change_between old new clock later was now)
      → RefinesFromEveryBase old new (λ base after. IsUnchangedEnvironment (change_between base after clock later was now))
  untouched_carries old new clock later was now h good =
      (subst meets_disk_assumption h.base good, λ base stood. (base, subst (λ d. represents d base) (sym h.base) stood, record { base = refl; clock = h.clock; written = h.written }))

  failed_carries : (n : ℕ) (input : Text) (old new : D) (clock later : C) (was now : Option Text) (kind : FaultKind)
      → ExchangeFailsWith forms acts gives n input (change_between old new clock later was now) kind
      → RefinesFromEveryBase old new (λ base after. ExchangeFailsWith forms does gives n input (change_between base after clock later was now) kind)
  failed_carries n input old new clock later was now kinds.Read h good = untouched_carries old new clock later was now h good
  failed_carries n input old new clock later was now kinds.Memory (inl h) good =
      let r = untouched_carries old new clock later was now h good in (r.0, λ base stood. let k = r.1 base stood in (k.0, k.1, inl k.2))
  failed_carries n input old new clock later was now kinds.Memory (inr (reply, next, h, wrote)) good =
      let r = answered_carries n input old new clock later was now reply next h good in (r.0, λ base stood. let k = r.1 base stood in (k.0, k.1, inr (reply, next, k.2, wrote)))
  failed_carries n input old new clock later was now kinds.Write (reply, next, size, h, wrote) good =
      let r = answered_carries n input old new clock later was now reply next h good in (r.0, λ base stood. let k = r.1 base stood in (k.0, k.1, (reply, next, size, k.2, wrote)))

  pub keeps : (input : Text) (first last : D) (outside : ClockAndWriterChange C) (result : Result ℕ ServeFault)
      → IsStreamResult forms acts gives input (environment_change_with_bases first last outside) result
      → StreamRefinesModel meets_disk_assumption represents forms does gives input first last outside result
  keeps input first last outside (Ok count) h good base stood =
      let r = sim.replies_carry forms acts does meets_disk_assumption represents earlier steps h.replies 0 (Continues input) first last h.moments h.replied good in
      let k = r.1 base stood in
      (k.0, k.1, record { moments = h.moments; replies = h.replies; taken = h.taken; replied = k.2; written = h.written; counted = h.counted })
  keeps input first last outside (Err fault) h good base stood =
      let f = failed_carries (length h.replies) h.rest h.mid last h.later outside.later h.between outside.new fault.kind h.failed good in
      let r = sim.begins_carry forms acts does meets_disk_assumption represents earlier steps h.replies 0 input h.rest first h.mid h.moments h.begun f.0 in
      let k = r.1 base stood in
      let l = f.1 k.0 k.1 in (
        l.0,
        l.1,
        record {
          moments = h.moments;
          replies = h.replies;
          rest = h.rest;
          mid = k.0;
          later = h.later;
          between = h.between;
          taken = h.taken;
          begun = k.2;
          written = h.written;
          failed = l.2;
          counted = h.counted;
        },
      )

-- ---- whatever the desk answers

module _ {D C : Type 0} (forms : RequestParsers) (acts : CallRelation D) (gives : C → ℕ → C → Type 0) (last : D) where
  -- For each script that leads from `new` to the last desk, there is one that leads from `old` to
  -- it, and `P` relates the two.
  abbrev ExtendsScript : D → D → (CallScript → CallScript → Type 0) → Type 0
  ExtendsScript old new P = (after : CallScript) → IsCallSequence acts new after.0 after.1 last → (before : CallScript) × IsCallSequence acts old before.0 before.1 last × P before after

  -- nothing was asked of it
  abbrev stayed : (old new : D) (after : CallScript) → new ≡ old → IsCallSequence acts new after.0 after.1 last → IsCallSequence acts old after.0 after.1 last
  stayed old new after same made = subst (λ d. IsCallSequence acts d after.0 after.1 last) same made

  responds_told : (asked : RequestDemand) (old new : D) (taken : List ℕ) (response : Response) → IsResponseToDemand acts asked old taken response new
      → ExtendsScript old new (λ before after. IsResponseToDemand IsNextScriptedCall asked before taken response after)
  responds_told (ResponseOnly said) old new taken response (is, none, same) after made = (after, stayed old new after same made, (is, none, refl))
  responds_told (DeskCall call) old new taken response (now, outcome, is, took, acted) after made =
      (((now, call) ∷ after.0, outcome ∷ after.1), (new, acted, made), (now, outcome, is, took, (refl, refl)))

  replied_told : (n : ℕ) (found : RequestReading) (effect : RequestEffect D) → IsEffectOfReading forms acts n found effect
      → ExtendsScript effect.base effect.after (λ before after. IsEffectOfReading forms IsNextScriptedCall n found (effect_between effect before after))
  replied_told n NoBytesLeft effect h after made = elim h [ ]
  replied_told n (Unreadable problem) effect (is, ends, none, same) after made = (after, stayed effect.base effect.after after same made, (is, ends, none, refl))
  replied_told n (CompleteRequest request rest) effect h after made =
      let r = responds_told (demand_of_request forms request) effect.base effect.after effect.moments h.response h.responds after made in
      (r.0, r.1, record { response = h.response; closes = h.closes; responds = r.2; last = h.last; bytes = h.bytes; follows = h.follows })

  one_told : (n : ℕ) (input : Text) (effect : RequestEffect D) → IsEffectOfFirstRequest forms acts n input effect
      → ExtendsScript effect.base effect.after (λ before after. IsEffectOfFirstRequest forms IsNextScriptedCall n input (effect_between effect before after))
  one_told n input effect h after made =
      let r = replied_told n h.found effect h.replied after made in (r.0, r.1, record { found = h.found; finds = h.finds; replied = r.2 })

  replies_told : (rs : List Text) (n : ℕ) (next : StreamState) (old new : D) (moments : List ℕ) → AreRepliesOfStream forms acts n next old moments rs new
      → ExtendsScript old new (λ before after. AreRepliesOfStream forms IsNextScriptedCall n next before moments rs after)
  replies_told rs n Finished old new moments (none, asked, same) after made = (after, stayed old new after same made, (none, asked, refl))
  replies_told [] n (Continues input) old new moments (none, asked, same) after made = (after, stayed old new after same made, (none, asked, refl))
  replies_told (reply ∷ rs) n (Continues input) old new moments (taken, more, next, mid, split, first, others) after made =
      let l = replies_told rs (n + 1) next mid new more others after made in
      let k = one_told n input (effect_of old taken reply next mid) first l.0 l.1 in
      (k.0, k.1, (taken, more, next, l.0, split, k.2, l.2))

  begins_told : (rs : List Text) (n : ℕ) (input rest : Text) (old new : D) (moments : List ℕ) → AreFirstReplies forms acts n input old moments rs rest new
      → ExtendsScript old new (λ before after. AreFirstReplies forms IsNextScriptedCall n input before moments rs rest after)
  begins_told [] n input rest old new moments (is, asked, same) after made = (after, stayed old new after same made, (is, asked, refl))
  begins_told (reply ∷ rs) n input rest old new moments (taken, more, left, mid, split, first, others) after made =
      let l = begins_told rs (n + 1) left rest mid new more others after made in
      let k = one_told n input (effect_of old taken reply (Continues left) mid) first l.0 l.1 in
      (k.0, k.1, (taken, more, left, l.0, split, k.2, l.2))

  answered_told : (n : ℕ) (input : Text) (old new : D) (clock later : C) (was now : Option Text) (reply : Text) (next : StreamState)
      → ExchangeHasReply forms acts gives n input (change_between old new clock later was now) reply next
      → ExtendsScript old new (λ before after. ExchangeHasReply forms IsNextScriptedCall gives n input (change_between before after clock later was now) reply next)
  answered_told n input old new clock later was now reply next h after made =
      let r = one_told n input (effect_of old h.taken reply next new) h.one after made in (r.0, r.1, record { taken = h.taken; moments = h.moments; one = r.2 })

  untouched_told : (old new : D) (clock later : C) (was now : Option Text) → IsUnchangedEnvironment (change_between old new clock later was now)
      → ExtendsScript old new (λ before after. IsUnchangedEnvironment (change_between before after clock later was now))
  untouched_told old new clock later was now h after made = (after, stayed old new after h.base made, record { base = refl; clock = h.clock; written = h.written })

  failed_told : (n : ℕ) (input : Text) (old new : D) (clock later : C) (was now : Option Text) (kind : FaultKind)
      → ExchangeFailsWith forms acts gives n input (change_between old new clock later was now) kind
      → ExtendsScript old new (λ before after. ExchangeFailsWith forms IsNextScriptedCall gives n input (change_between before after clock later was now) kind)
  failed_told n input old new clock later was now kinds.Read h after made = untouched_told old new clock later was now h after made
  failed_told n input old new clock later was now kinds.Memory (inl h) after made = let r = untouched_told old new clock later was now h after made in (r.0, r.1, inl r.2)
  failed_told n input old new clock later was now kinds.Memory (inr (reply, next, h, wrote)) after made =
      let r = answered_told n input old new clock later was now reply next h after made in (r.0, r.1, inr (reply, next, r.2, wrote))
  failed_told n input old new clock later was now kinds.Write (reply, next, size, h, wrote) after made =
      let r = answered_told n input old new clock later was now reply next h after made in (r.0, r.1, (reply, next, size, r.2, wrote))

  pub tells : (input : Text) (first : D) (outside : ClockAndWriterChange C) (result : Result ℕ ServeFault)
      → IsStreamResult forms acts gives input (environment_change_with_bases first last outside) result
      → (script : CallScript) × IsCallSequence acts first script.0 script.1 last × StreamMatchesScript forms gives input script outside result
  tells input first outside (Ok count) h =
      let r = replies_told h.replies 0 (Continues input) first last h.moments h.replied ([], []) refl in
      (r.0, r.1, record { moments = h.moments; replies = h.replies; taken = h.taken; replied = r.2; written = h.written; counted = h.counted })
  tells input first outside (Err fault) h =
      let f = failed_told (length h.replies) h.rest h.mid last h.later outside.later h.between outside.new fault.kind h.failed ([], []) refl in
      let r = begins_told h.replies 0 input h.rest first h.mid h.moments h.begun f.0 f.1 in (
        r.0,
        r.1,
        record {
          moments = h.moments;
          replies = h.replies;
          rest = h.rest;
          mid = f.0;
          later = h.later;
          between = h.between;
          taken = h.taken;
          begun = r.2;
          written = h.written;
          failed = f.2;
          counted = h.counted;
        },
      )
