-- Runs: what holds in every run of calls on a handle.
use Rattle.std.proofs.Common.{◌≡◌, ℕ, zero, suc, ◌+◌, ◌<◌, inl, inr, Bool, true, false, List, [], ◌∷◌, ◌++◌, length, take, max, refl, sym, ap, ◌∙◌, subst, arith, set, length-append}
use Rattle.std.specs.Prelude.{Option, Some, None, slice_get, option_map, nat_le, if◌then◌else◌}
use Rattle.std.proofs.Math.Nat.{le-max_left, le-max_right}
use Rattle.commitment.specs.Spelling.{frame_bytes}
use Rattle.definitions.specs.declared.logs.Entry.{Entry}
use Rattle.definitions.specs.declared.logs.Entry.TheVariants.{Made, Chose, Got}
use Rattle.definitions.specs.declared.frames.TurnFrame.{TurnFrame}
use Rattle.definitions.specs.World.{players_of}
use Rattle.definitions.specs.Logs.{made}
use Rattle.definitions.specs.Needs.{choice_fault}
use Rattle.peer_core.specs.Views.{PeerState}
use Rattle.wire_frames.specs.Reading.{Reading, at_start}
use Rattle.lethwyrn_c.specs.Heard as H
use Rattle.lethwyrn_c.specs.Sending as S
use Rattle.lethwyrn_c.specs.Standings.{Standing, log_front}
use Rattle.lethwyrn_c.specs.Runs.{begun, went_on, chose, heard_bytes, relinked, advanced, took_log, stored_to, took_frame, sends_from, IsTold, RunsAreTold, FramesWaitForTheirEntries}
use Rattle.lethwyrn_c.proofs.Fronts.{front_rises, front_stays}
use Rattle.lethwyrn_c.proofs.Marks.{Grows, advance_grows, choice_grows, heard_grows}

-- the same with a log that has grown, and other links
grown : (s : Standing) (taken : List ℕ) (named : ℕ) (es : List Entry) (links : List Reading) → Grows s.peer.entries es → IsTold s taken named →
    IsTold (record s { peer = record s.peer { entries = es }; links = links }) taken named
grown s taken named es links g k =
    let p : PeerState = s.peer in
    let longer : p.entries ++ g.more ≡ es = sym g.grown in
    let size = length-append p.entries g.more in
    let a = k.within in let b = k.stored_within in let n = k.named_is in
    let given : log_front (record p { entries = p.entries ++ g.more }) s.given ≡ log_front p s.given = front_stays p.game.id p.me p.entries g.more s.given k.within in
    let first : log_front (record p { entries = p.entries ++ g.more }) s.stored ≡ log_front p s.stored = front_stays p.game.id p.me p.entries g.more s.stored (omega arith) in
    let long = ap length first in
    let Kept : List Entry → Type 0 = λ l. IsTold (record s { peer = record p { entries = l }; links = links }) taken named in
    subst Kept longer (record { within = omega arith; stored_within = b; taken_is = k.taken_is ∙ sym given; named_is = omega arith })

-- nothing but the places changes
told_of : (s t : Standing) (taken : List ℕ) (named : ℕ) → s ≡ t → IsTold s taken named → IsTold t taken named
told_of s t taken named e k = subst (λ (r : Standing). IsTold r taken named) e k

took : (bytes : List ℕ) (s t : Standing) (taken : List ℕ) (named : ℕ) → S.IsEntryTaken bytes s t → IsTold s taken named → IsTold t (taken ++ bytes) named
took bytes s t taken named is k =
    let there = is.there in let b = k.stored_within in
    told_of (record s { given = s.given + 1 }) t (taken ++ bytes) named (sym is.goes_on) (record {
      within = omega arith;
      stored_within = omega arith;
      taken_is = ap (λ xs. xs ++ bytes) k.taken_is ∙ sym is.bytes_are;
      named_is = k.named_is;
    })

named_on : (bytes : ℕ) (s t : Standing) (taken : List ℕ) (named : ℕ) → S.IsStoredTo bytes s t → IsTold s taken named → IsTold t taken (max named bytes)
named_on bytes s t taken named is k =
    let left = le-max_left named bytes in let right = le-max_right named bytes in
    let b = k.stored_within in let n = k.named_is in
    told_of (record s { stored = t.stored }) t taken (max named bytes) (sym is.same) (record {
      within = k.within;
      stored_within = elim is.ends_within [ inl e ↦ omega arith | inr w ↦ w.0 ];
      taken_is = k.taken_is;
      named_is = elim is.ends_within [ inl e ↦ (let l = ap (λ i. length (log_front s.peer i)) e in omega arith) | inr w ↦ (let l = w.1 in omega arith) ];
    })

heard_told : (from : ℕ) (bytes : List ℕ) (s : Standing) (taken : List ℕ) (named : ℕ) → IsTold s taken named → IsTold (H.hear_behind from bytes s) taken named
heard_told from bytes s taken named k = go (H.refusal from bytes s)
  where
    go : (o : Option ℕ) → IsTold (H.unless o (H.behind_frame from s (H.step_of from bytes s)) s) taken named
    go None = grown s taken named _ (set s.links from (H.step_of from bytes s).reader) (heard_grows from s.peer (H.step_of from bytes s).fed.what) k
    go (Some code) = k

linked_told : (player : ℕ) (s : Standing) (taken : List ℕ) (named : ℕ) → IsTold s taken named → IsTold (H.link_behind player s) taken named
linked_told player s taken named k = go (nat_le (players_of s.peer.game) player)
  where
    go : (b : Bool) → IsTold (if b then s else record s { links = set s.links player at_start }) taken named
    go true = k
    go false = record { within = k.within; stored_within = k.stored_within; taken_is = k.taken_is; named_is = k.named_is }

pub runs_told : RunsAreTold
runs_told u all most (begun text player s is) =
    let given = is.given in let stored = is.stored in
    let front : log_front s.peer 0 ≡ log_front s.peer s.given = ap (λ i. log_front s.peer i) (sym is.given) in
    let none = ap (λ i. length (log_front s.peer i)) is.stored in
    record { within = omega arith; stored_within = omega arith; taken_is = front; named_is = omega arith }
runs_told u all most (went_on text player log s is) =
    let given = is.on.given in let stored = is.on.stored in
    let same = ap (λ i. length (log_front s.peer i)) (is.on.stored ∙ sym is.on.given) in
    record { within = omega arith; stored_within = omega arith; taken_is = refl; named_is = omega arith }
runs_told u all most (chose m nonce s taken named r) =
    grown s taken named _ s.links (choice_grows m nonce s.peer (choice_fault s.peer.game s.peer.me s.peer.entries m)) (runs_told s taken named r)
runs_told u all most (heard_bytes from bytes s taken named r) = heard_told from bytes s taken named (runs_told s taken named r)
runs_told u all most (relinked player s taken named r) = linked_told player s taken named (runs_told s taken named r)
runs_told u all most (advanced s taken named r) =
    grown s taken named _ s.links (advance_grows s.peer.game s.peer.me s.peer.entries) (runs_told s taken named r)
runs_told u all most (took_log bytes s t taken named r is) = took bytes s t taken named is (runs_told s taken named r)
runs_told u all most (stored_to bytes s t taken named r is) = named_on bytes s t taken named is (runs_told s taken named r)
runs_told u all most (took_frame bytes s t taken named r is) =
    let k = runs_told s taken named r in
    told_of (record s { sent = s.sent + 1 }) t taken named (sym is.goes_on) (record { within = k.within; stored_within = k.stored_within; taken_is = k.taken_is; named_is = k.named_is })
runs_told u all most (sends_from place s taken named r) =
    let k = runs_told s taken named r in
    record { within = k.within; stored_within = k.stored_within; taken_is = k.taken_is; named_is = k.named_is }

-- where the frame at a place of the stream stands in the log
record IsMadeAt (es : List Entry) (n k : ℕ) : Type 0 where
  at : ℕ
  frame : TurnFrame
  within : at < n
  entry : slice_get es at ≡ Some (Made frame)
  is_frame : slice_get (made es) k ≡ Some frame

one_behind : (e : Entry) (es : List Entry) (n k j : ℕ) (m : IsMadeAt es n k) → slice_get (made (e ∷ es)) j ≡ slice_get (made es) k → IsMadeAt (e ∷ es) (suc n) j
one_behind e es n k j m same = let lt = m.within in record { at = suc m.at; frame = m.frame; within = omega arith; entry = m.entry; is_frame = same ∙ m.is_frame }

made_at : (es : List Entry) (n k : ℕ) → k < length (made (take n es)) → IsMadeAt es n k
unfolding made
made_at [] zero k lt = absurd (omega (arith, lt))
made_at [] (suc n) k lt = absurd (omega (arith, lt))
made_at (e ∷ es) zero k lt = absurd (omega (arith, lt))
made_at (Chose t m o ∷ es) (suc n) k lt = one_behind (Chose t m o) es n k k (made_at es n k lt) refl
made_at (Got q f ∷ es) (suc n) k lt = one_behind (Got q f) es n k k (made_at es n k lt) refl
made_at (Made f ∷ es) (suc n) zero lt = record { at = 0; frame = f; within = omega arith; entry = refl; is_frame = refl }
made_at (Made f ∷ es) (suc n) (suc k) lt = one_behind (Made f) es n k (suc k) (made_at es n k (omega (arith, lt))) refl

pub frames_wait : FramesWaitForTheirEntries
frames_wait s t taken named bytes r is =
    let k = runs_told s taken named r in
    let m : IsMadeAt s.peer.entries s.stored s.sent = made_at s.peer.entries s.stored s.sent is.is_stored in
    let lt = m.within in let b = k.stored_within in let n = k.named_is in
    let whole = ap length k.taken_is in
    let p : PeerState = s.peer in
    let given = front_rises p.game.id p.me p.entries (m.at + 1) s.given (omega arith) in
    let first = front_rises p.game.id p.me p.entries (m.at + 1) s.stored (omega arith) in
    let same : Some bytes ≡ Some (frame_bytes m.frame) = is.is_frame ∙ ap (option_map frame_bytes) m.is_frame in
    record { at = m.at; frame = m.frame; entry_is = m.entry; bytes_are = cc; was_taken = omega arith; was_named = omega arith }
