-- A stream with one more exchange.
use Rattle.std.proofs.Common.{◌≡◌, ℕ, ◌+◌, List, [], ◌∷◌, ◌++◌, length, Option, Some, None, refl, sym, ap, ◌∙◌, subst, IfSome, append_assoc, arith, inl}
use Rattle.std.specs.Prelude.{Ok}
use Rattle.std.specs.List.{concat}
use Rattle.std.specs.Io.KnownBytes.{Appends, prepend_known}
use Rattle.std.proofs.KnownBytes.{Appends-trans, Appends-nil}
use Rattle.std.proofs.lemmas.List.{append-nil, length_push}
use Rattle.brk_money.specs.Spelling.{Text}
use Rattle.brk_io.specs.Span.{EnvironmentChange}
use Rattle.brk_io.specs.Moments.{ClockReturnsMomentsInSequence}
use Rattle.brk_model_http.specs.Asked.{RequestParsers}
use Rattle.brk_model_http.specs.Found.{NoBytesLeft, ReadsFirstRequest}
use Rattle.brk_model_http.specs.Stream.{CallRelation, StreamState, Finished, Continues, IsEffectOfFirstRequest, AreRepliesOfStream, AreFirstReplies}
use Rattle.brk_http_engine.proofs.Effects.{effect_of}
use Rattle.brk_http_engine.specs.Turns.{ExchangeHasReply, ExchangeCompletesWith, ExchangeFailsWith, StreamFailsWith, IsStreamResult}
use Rattle.brk_http_engine.specs.declared.exchanges.ExchangeResult.TheVariants as turn
use Rattle.brk_io.specs.declared.stream_fault.FaultKind.{FaultKind}
use Rattle.brk_io.specs.declared.stream_fault.FaultKind.TheVariants as kinds

concat_push : (xs : List Text) (y : Text) → concat (xs ++ y ∷ []) ≡ concat xs ++ y
concat_push [] y = append-nil y
concat_push (x ∷ xs) y = ap (λ t. x ++ t) (concat_push xs y) ∙ sym (append_assoc x (concat xs) y)

at_rest : (left : Option Text) (b rest : Text) (P : Text → Type 0) → prepend_known b left ≡ Some rest → IfSome left (λ xs. P (b ++ xs)) → P rest
at_rest None b rest P e h = cc
at_rest (Some xs) b rest P e h = let f : b ++ xs ≡ rest = cc in subst P f h

from_zero : {n m : ℕ} → n ≡ m → 0 + m ≡ n
from_zero e = omega (arith, e)

-- moments after moments
moments_more : {C : Type 0} (gives : C → ℕ → C → Type 0) (first mid last : C) (ms ns : List ℕ) → ClockReturnsMomentsInSequence gives first ms mid
    → ClockReturnsMomentsInSequence gives mid ns last → ClockReturnsMomentsInSequence gives first (ms ++ ns) last
moments_more gives first mid last [] ns e h = subst (λ c. ClockReturnsMomentsInSequence gives c ns last) e h
moments_more gives first mid last (m ∷ ms) ns (c, g, more) h = (c, g, moments_more gives c mid last ms ns more h)

module _ {B C : Type 0} (forms : RequestParsers) (does : CallRelation B) (gives : C → ℕ → C → Type 0) where
  one_same : (n n' : ℕ) (i i' : Text) (b b' : B) (taken : List ℕ) (reply : Text) (next : StreamState) (after : B) → n' ≡ n → i' ≡ i → b' ≡ b
      → IsEffectOfFirstRequest forms does n' i' (effect_of b' taken reply next after)
      → IsEffectOfFirstRequest forms does n i (effect_of b taken reply next after)
  one_same n n' i i' b b' taken reply next after en ei eb h =
      subst (λ m. IsEffectOfFirstRequest forms does m i (effect_of b taken reply next after)) en
      (subst (λ j. IsEffectOfFirstRequest forms does n' j (effect_of b taken reply next after)) ei (subst (λ c. IsEffectOfFirstRequest forms does n' i' (effect_of c taken reply next after)) eb h))

  -- one reply more, after which the stream goes on
  begins_more : (rs : List Text) (n k : ℕ) (i j : Text) (b m : B) (ms taken : List ℕ) (reply rest : Text) (after : B) → AreFirstReplies forms does n i b ms rs j m → n + length rs ≡ k
      → IsEffectOfFirstRequest forms does k j (effect_of m taken reply (Continues rest) after) → AreFirstReplies forms does n i b (ms ++ taken) (rs ++ reply ∷ []) rest after
  begins_more [] n k i j b m ms taken reply rest after (ei, em, eb) count one =
      (taken, [], rest, after, ap (λ l. l ++ taken) em ∙ sym (append-nil taken), one_same n k i j b m taken reply (Continues rest) after (omega (arith, count)) ei eb one, (refl, refl, refl))
  begins_more (x ∷ rs) n k i j b m ms taken reply rest after (t, more, left, mid, e, first, others) count one =
      (t, more ++ taken, left, mid, ap (λ l. l ++ taken) e ∙ append_assoc t more taken, first, begins_more rs (n + 1) k left j mid m more taken reply rest after others (omega (arith, count)) one)

  -- one reply more, which is the last
  begins_last : (rs : List Text) (n k : ℕ) (i j : Text) (b m : B) (ms taken : List ℕ) (reply : Text) (after : B) → AreFirstReplies forms does n i b ms rs j m → n + length rs ≡ k
      → IsEffectOfFirstRequest forms does k j (effect_of m taken reply Finished after) → AreRepliesOfStream forms does n (Continues i) b (ms ++ taken) (rs ++ reply ∷ []) after
  begins_last [] n k i j b m ms taken reply after (ei, em, eb) count one =
      (taken, [], Finished, after, ap (λ l. l ++ taken) em ∙ sym (append-nil taken), one_same n k i j b m taken reply Finished after (omega (arith, count)) ei eb one, (refl, refl, refl))
  begins_last (x ∷ rs) n k i j b m ms taken reply after (t, more, left, mid, e, first, others) count one =
      (t, more ++ taken, Continues left, mid, ap (λ l. l ++ taken) e ∙ append_assoc t more taken, first, begins_last rs (n + 1) k left j mid m more taken reply after others (omega (arith, count)) one)

  -- no request more
  begins_end : (rs : List Text) (n : ℕ) (i j : Text) (b m : B) (ms : List ℕ) → AreFirstReplies forms does n i b ms rs j m → ReadsFirstRequest j NoBytesLeft
      → AreRepliesOfStream forms does n (Continues i) b ms rs m
  begins_end [] n i j b m ms (ei, em, eb) none = (subst (λ t. ReadsFirstRequest t NoBytesLeft) ei none, em, eb)
  begins_end (x ∷ rs) n i j b m ms (t, more, left, mid, e, first, others) none = (t, more, Continues left, mid, e, first, begins_end rs (n + 1) left j mid m more others none)

  -- After the first `n` replies were written, `rest` is the remaining input.
  pub record HasFirstReplies (input : Text) (span : EnvironmentChange B C) (n : ℕ) (rest : Text) : Type 0 where
    pub moments : List ℕ
    pub replies : List Text
    pub taken : ClockReturnsMomentsInSequence gives span.clock moments span.later
    pub begun : AreFirstReplies forms does 0 input span.base moments replies rest span.after
    pub written : Appends span.old span.new (concat replies)
    pub counted : n ≡ length replies

  -- If the input is known, the first `n` replies were written, and the buffer and the reader have
  -- the remaining input. Vacuous if the input is unknown.
  abbrev pub HasFirstRepliesIfKnown : Option Text → EnvironmentChange B C → ℕ → Text → Option Text → Type 0
  HasFirstRepliesIfKnown a span n buffer left = IfSome a (λ input. (rest : Text) × (prepend_known buffer left ≡ Some rest) × HasFirstReplies input span n rest)

  pub at_first : (a : Option Text) (base : B) (clock : C) (old : Option Text) (buffer : Text) → buffer ≡ []
      → HasFirstRepliesIfKnown a (record { base = base; after = base; clock = clock; later = clock; old = old; new = old }) 0 buffer a
  at_first None base clock old buffer e = tt
  at_first (Some input) base clock old buffer e = (
    input,
    ap (λ t. Some (t ++ input)) e,
    record { moments = []; replies = []; taken = refl; begun = (refl, refl, refl); written = Appends-nil old; counted = refl },
  )

  -- The change from the end of `span` to the given state.
  abbrev pub change_after : EnvironmentChange B C → B → C → Option Text → EnvironmentChange B C
  change_after span after later new = record { base = span.after; after = after; clock = span.later; later = later; old = span.new; new = new }

  -- The change from the start of `span` to the given state.
  abbrev pub change_since_start : EnvironmentChange B C → B → C → Option Text → EnvironmentChange B C
  change_since_start span after later new = record { base = span.base; after = after; clock = span.clock; later = later; old = span.old; new = new }

  here : (input : Text) (span : EnvironmentChange B C) (n : ℕ) (rest left : Text) (after : B) (later : C) (new : Option Text) (reply : Text) → HasFirstReplies input span n rest
      → ExchangeHasReply forms does gives n rest (change_after span after later new) reply (Continues left) → Appends span.new new reply
      → HasFirstReplies input (change_since_start span after later new) (n + 1) left
  here input span n rest left after later new reply p answered wrote = record {
    moments = p.moments ++ answered.taken;
    replies = p.replies ++ reply ∷ [];
    taken = moments_more gives _ _ _ p.moments answered.taken p.taken answered.moments;
    begun = begins_more p.replies 0 n input rest span.base span.after p.moments answered.taken reply left after p.begun (from_zero p.counted) answered.one;
    written = subst (λ t. Appends span.old new t) (sym (concat_push p.replies reply)) (Appends-trans _ _ _ _ _ p.written wrote);
    counted = ap (λ m. m + 1) p.counted ∙ sym (length_push p.replies reply);
  }

  pub open_here : (a : Option Text) (span : EnvironmentChange B C) (n : ℕ) (buffer : Text) (left : Option Text) (after : B) (later : C) (new : Option Text) (buffer' : Text) (left' : Option Text)
      → HasFirstRepliesIfKnown a span n buffer left
      → IfSome left (λ xs. ExchangeCompletesWith forms does gives n (buffer ++ xs) (change_after span after later new) (prepend_known buffer' left')
      turn.Open)
      → HasFirstRepliesIfKnown a (change_since_start span after later new) (n + 1) buffer' left'
  open_here None span n buffer left after later new buffer' left' h t = tt
  open_here (Some input) span n buffer left after later new buffer' left' (rest, is, p) t =
      let u = at_rest left buffer rest (λ i. ExchangeCompletesWith forms does gives n i (change_after span after later new) (prepend_known buffer' left') turn.Open) is t in
      (u.1, u.4, here input span n rest u.1 after later new u.0 p u.2 u.3)

  pub closed_here : (a : Option Text) (span : EnvironmentChange B C) (n : ℕ) (buffer : Text) (left : Option Text) (after : B) (later : C) (new left' : Option Text)
      → HasFirstRepliesIfKnown a span n buffer left → IfSome left (λ xs. ExchangeCompletesWith forms does gives n (buffer ++ xs) (change_after span after later new) left' turn.Closed)
      → IfSome a (λ input. IsStreamResult forms does gives input (change_since_start span after later new) (Ok (n + 1)))
  closed_here None span n buffer left after later new left' h t = tt
  closed_here (Some input) span n buffer left after later new left' (rest, is, p) t =
      let u = at_rest left buffer rest (λ i. ExchangeCompletesWith forms does gives n i (change_after span after later new) left' turn.Closed) is t in
      record {
        moments = p.moments ++ u.1.taken;
        replies = p.replies ++ u.0 ∷ [];
        taken = moments_more gives _ _ _ p.moments u.1.taken p.taken u.1.moments;
        replied = begins_last p.replies 0 n input rest span.base span.after p.moments u.1.taken u.0 after p.begun (from_zero p.counted) u.1.one;
        written = subst (λ t. Appends span.old new t) (sym (concat_push p.replies u.0)) (Appends-trans _ _ _ _ _ p.written u.2);
        counted = ap (λ m. m + 1) p.counted ∙ sym (length_push p.replies u.0);
      }

  same_moments : (first mid last : C) (ms : List ℕ) → ClockReturnsMomentsInSequence gives first ms mid → last ≡ mid → ClockReturnsMomentsInSequence gives first ms last
  same_moments first mid last ms h e = subst (λ c. ClockReturnsMomentsInSequence gives first ms c) (sym e) h

  pub ended_here : (a : Option Text) (span : EnvironmentChange B C) (n : ℕ) (buffer : Text) (left : Option Text) (after : B) (later : C) (new left' : Option Text)
      → HasFirstRepliesIfKnown a span n buffer left → IfSome left (λ xs. ExchangeCompletesWith forms does gives n (buffer ++ xs) (change_after span after later new) left' turn.Ended)
      → IfSome a (λ input. IsStreamResult forms does gives input (change_since_start span after later new) (Ok n))
  ended_here None span n buffer left after later new left' h t = tt
  ended_here (Some input) span n buffer left after later new left' (rest, is, p) t =
      let u = at_rest left buffer rest (λ i. ExchangeCompletesWith forms does gives n i (change_after span after later new) left' turn.Ended) is t in
      record {
        moments = p.moments;
        replies = p.replies;
        taken = same_moments _ _ _ p.moments p.taken u.1.clock;
        replied = subst (λ b. AreRepliesOfStream forms does 0 (Continues input) span.base p.moments p.replies b) (sym u.1.base)
            (begins_end p.replies 0 input rest span.base span.after p.moments p.begun u.0);
        written = subst (λ t. Appends span.old new t) (append-nil (concat p.replies)) (Appends-trans _ _ _ _ _ p.written u.1.written);
        counted = p.counted;
      }

  pub failed_here : (a : Option Text) (span : EnvironmentChange B C) (n : ℕ) (buffer : Text) (left : Option Text) (after : B) (later : C) (new : Option Text) (kind : FaultKind)
      → HasFirstRepliesIfKnown a span n buffer left → IfSome left (λ xs. ExchangeFailsWith forms does gives n (buffer ++ xs) (change_after span after later new) kind)
      → IfSome a (λ input. StreamFailsWith forms does gives input (change_since_start span after later new) kind n)
  failed_here None span n buffer left after later new kind h t = tt
  failed_here (Some input) span n buffer left after later new kind (rest, is, p) t =
      let u = at_rest left buffer rest (λ i. ExchangeFailsWith forms does gives n i (change_after span after later new) kind) is t in
      record {
        moments = p.moments;
        replies = p.replies;
        rest = rest;
        mid = span.after;
        later = span.later;
        between = span.new;
        taken = p.taken;
        begun = p.begun;
        written = p.written;
        failed = subst (λ m. ExchangeFailsWith forms does gives m rest (change_after span after later new) kind) p.counted u;
        counted = p.counted;
      }

  -- a stream that failed before its first request was read
  pub unstarted : (a : Option Text) (base : B) (clock : C) (old : Option Text)
      → IfSome a (λ input. StreamFailsWith forms does gives input (record { base = base; after = base; clock = clock; later = clock; old = old; new = old }) kinds.Memory 0)
  unstarted None base clock old = tt
  unstarted (Some input) base clock old = record {
    moments = [];
    replies = [];
    rest = input;
    mid = base;
    later = clock;
    between = old;
    taken = refl;
    begun = (refl, refl, refl);
    written = Appends-nil old;
    failed = inl (record { base = refl; clock = refl; written = Appends-nil old });
    counted = refl;
  }
