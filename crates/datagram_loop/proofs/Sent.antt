-- Sent: the datagrams of a batch are handed to `send`, one after the other.
use Rattle.std.proofs.Common.{◌≡◌, ℕ, zero, suc, ◌+◌, ◌-◌, ◌<◌, ◌≤◌, Bool, true, false, refl, sym, ap, subst, ◌∙◌, List, [], ◌∷◌, ◌++◌, append_assoc, append-nil, arith, length, map, get_or}
use Rattle.std.specs.Prelude.{Option, Some, None, not, take, drop, min, max, is_none, slice_get}
use Rattle.std.specs.List.{list_any}
use Rattle.std.proofs.lemmas.Bool.{and_from, eq-eqb, false≢true, or_parts}
use Rattle.std.proofs.lemmas.List.{length-map, take_more, map-append}
use Rattle.std.proofs.lemmas.Grind.{flat_map-append}
use Rattle.std.proofs.lemmas.Option.{get_or_from_slice_get}
use Rattle.std.proofs.lemmas.Slice.Eq.{bytes_eq-Decides}
use Rattle.std.proofs.Math.Seq.{take-length}
use Rattle.definitions.specs.Lists.{is_empty, EachIs}
use Rattle.definitions.specs.World.{Game}
use Rattle.definitions.specs.declared.frames.TurnFrame.{TurnFrame}
use Rattle.definitions.specs.declared.logs.Entry.{Entry}
use Rattle.definitions.specs.declared.answers.Need.{Need}
use Rattle.definitions.specs.Logs.{made}
use Rattle.definitions.specs.Honest.{IsHonest, made_count}
use Rattle.definitions.specs.Needs.{needs, may_choose}
use Rattle.definitions.specs.Advance.{next_made}
use Rattle.definitions.specs.Findings.{is_clean}
use Rattle.definition_laws.specs.Advancing.{IsDone, ExactlyOne}
use Rattle.definition_laws.proofs.Standing.{stands_one_way}
use Rattle.std.proofs.Common.{inl, inr}
use Rattle.datagram_post.specs.declared.answers.Sent.{Sent}
use Rattle.datagram_post.specs.declared.answers.Sent.TheVariants as S
use Rattle.datagram_post.specs.Items.{Item, send_item}
use Rattle.datagram_post.specs.Moved.{Mail}
use Rattle.peer_rules.specs.Phases.{is_running}
use Rattle.peer_rules.specs.declared.arrivals.Arrival.{Arrival}
use Rattle.post_rules.specs.declared.limits.TheConstants.{MOST_FRAMES}
use Rattle.post_rules.specs.declared.partners.Partner.{Partner}
use Rattle.post_rules.specs.Views.{Settling, View}
use Rattle.post_rules.specs.Handling.{still_new}
use Rattle.post_rules.specs.Sending.{asked, next_frames, parts, mail_to, mails_to, batch_of, batch}
use Rattle.post_rules.specs.Licence.{is_still, may_send, lacks, is_waited_for_by, is_through}
use Rattle.post_rules.specs.After.{after, view_after}
use Rattle.post_rules.specs.Rules.{is_allowed, is_mail, may_give}
use Rattle.post_rules.specs.Histories.{are_allowed, Follows}
use Rattle.datagram_loop.specs.declared.settling.Settled.{Settled}
use Rattle.datagram_loop.specs.declared.settling.Settled.TheVariants as P
use Rattle.datagram_loop.specs.States.{LoopState, kept_of, view_of}
use Rattle.datagram_loop.specs.Sending.{SendsOne, AreAnswers, SendsAll, count_for}
use Rattle.datagram_loop.specs.Settling.{IsServing, StandsServed, Serves}
use Rattle.datagram_loop.proofs.Views.{same_addr, all_kept, few_kept}

-- ---- answers one after the other

answers_then : (ms ns : List Mail) (xs ys : List Item) → AreAnswers ms xs → AreAnswers ns ys → AreAnswers (ms ++ ns) (xs ++ ys)
answers_then [] ns [] ys a b = b
answers_then [] ns (x ∷ xs) ys a b = absurd (cc)
answers_then (m ∷ ms) ns [] ys a b = absurd a
answers_then (m ∷ ms) ns (x ∷ xs) ys a b = (a.0, answers_then ms ns xs ys a.1 b)

pub sends_none : (items : List Item) → SendsAll [] items items
sends_none items = record { items = []; told = sym (append-nil items); answers = refl }

pub sends_then : (ms ns : List Mail) (a b c : List Item) → SendsAll ms a b → SendsAll ns b c → SendsAll (ms ++ ns) a c
sends_then ms ns a b c f g = record {
  items = f.items ++ g.items;
  told = g.told ∙ ap (λ (x : List Item). x ++ g.items) f.told ∙ append_assoc a f.items g.items;
  answers = answers_then ms ns f.items g.items f.answers g.answers;
}

pub sends_one : (m : Mail) (a b : List Item) → SendsOne m a b → SendsAll (m ∷ []) a b
sends_one m a b s = record { items = send_item s.answer m.to m.bytes ∷ []; told = s.told; answers = ((s.answer, refl), refl) }

-- ---- to one player

part_at : (gs : List TurnFrame) (k : ℕ) → k < max (length gs) 1 → slice_get (parts gs) k ≡ Some (slice_get gs k)
part_at [] zero h = refl
part_at [] (suc k) h = absurd (omega (arith, h))
part_at (g ∷ gs) zero h = refl
part_at (g ∷ gs) (suc k) h = somes gs k (omega (arith, h))
  where
    somes : (gs : List TurnFrame) (k : ℕ) → k < length gs → slice_get (map Some gs) k ≡ Some (slice_get gs k)
    somes [] k h = absurd (omega (arith, h))
    somes (g ∷ gs) zero h = refl
    somes (g ∷ gs) (suc k) h = somes gs k (omega (arith, h))

long_parts : (gs : List TurnFrame) → length (parts gs) ≡ max (length gs) 1
long_parts [] = refl
long_parts (g ∷ gs) = (let h : length (map Some gs) ≡ length gs = length-map gs Some in omega (arith, h))

at_behind : (fs : List TurnFrame) (from k : ℕ) → slice_get (drop from fs) k ≡ slice_get fs (from + k)
at_behind fs zero k = (let e : k ≡ 0 + k = omega arith in ap (λ (n : ℕ). slice_get fs n) e)
at_behind [] (suc n) k = refl
at_behind (f ∷ fs) (suc n) k = (let e : suc (n + k) ≡ suc n + k = omega arith in at_behind fs n k ∙ ap (λ (m : ℕ). slice_get (f ∷ fs) m) e)

at_taken : (n : ℕ) (fs : List TurnFrame) (k : ℕ) → k < n → slice_get (take n fs) k ≡ slice_get fs k
at_taken zero fs k h = absurd (omega (arith, h))
at_taken (suc n) [] k h = refl
at_taken (suc n) (f ∷ fs) zero h = refl
at_taken (suc n) (f ∷ fs) (suc k) h = at_taken n fs k (omega (arith, h))

long_next : (fs : List TurnFrame) (p : Partner) → length (next_frames fs p) ≡ min MOST_FRAMES (length fs - asked (length fs) p)
long_next fs p = taken MOST_FRAMES (drop (asked (length fs) p) fs) ∙ ap (min MOST_FRAMES) (dropped (asked (length fs) p) fs)
  where
    taken : (n : ℕ) (xs : List TurnFrame) → length (take n xs) ≡ min n (length xs)
    taken zero xs = omega arith
    taken (suc n) [] = omega arith
    taken (suc n) (x ∷ xs) = (let h = taken n xs in omega (arith, h))

    dropped : (n : ℕ) (xs : List TurnFrame) → length (drop n xs) ≡ length xs - n
    dropped zero xs = omega arith
    dropped (suc n) [] = omega arith
    dropped (suc n) (x ∷ xs) = (let h = dropped n xs in omega (arith, h))

-- the part at this place is the own frame there, if there is one
part_for : (fs : List TurnFrame) (p : Partner) (k : ℕ) → k < count_for (length fs) p → slice_get (parts (next_frames fs p)) k ≡ Some (slice_get fs (asked (length fs) p + k))
part_for fs p k h =
    part_at (next_frames fs p) k (let n = long_next fs p in omega (arith, n, h))
    ∙ ap (λ (o : Option TurnFrame). Some o) (at_taken MOST_FRAMES (drop (asked (length fs) p) fs) k few ∙ at_behind fs (asked (length fs) p) k)
  where
    few : k < MOST_FRAMES
    few = omega (arith, h)

mails_more : (game : Game) (me : ℕ) (h : List Entry) (p : Partner) (k : ℕ) (o : Option TurnFrame) → k < length (parts (next_frames (made h) p)) → slice_get (parts (next_frames (made h) p)) k ≡ Some o →
    map (mail_to game me h p) (take (k + 1) (parts (next_frames (made h) p))) ≡ map (mail_to game me h p) (take k (parts (next_frames (made h) p))) ++ mail_to game me h p o ∷ []
mails_more game me h p k o lt g =
    ap (map (mail_to game me h p)) (take_more (parts (next_frames (made h) p)) k o lt ∙ ap (λ (x : Option TurnFrame). take k (parts (next_frames (made h) p)) ++ x ∷ []) (get_or_from_slice_get (parts (next_frames (made h) p)) k o o g))
    ∙ map-append (mail_to game me h p) (take k (parts (next_frames (made h) p))) (o ∷ [])

-- so many are sent
abbrev pub sent_to : Game → (me : ℕ) → List Entry → Partner → (k : ℕ) → List Mail
sent_to game me h p k = map (mail_to game me h p) (take k (parts (next_frames (made h) p)))

pub sent_more : (game : Game) (me : ℕ) (h : List Entry) (p : Partner) (k count from : ℕ) (o : Option TurnFrame) (a b c : List Item) → count ≡ count_for (made_count h) p → from ≡ asked (made_count h) p → k < count → o ≡ slice_get (made h) (from + k) →
    SendsAll (sent_to game me h p k) a b → SendsOne (mail_to game me h p o) b c → SendsAll (sent_to game me h p (k + 1)) a c
sent_more game me h p k count from o a b c is at lt frame s one =
    let lt2 : k < count_for (made_count h) p = omega (arith, is, lt) in
    let n = long_next (made h) p in
    let l = long_parts (next_frames (made h) p) in
    let here : slice_get (parts (next_frames (made h) p)) k ≡ Some o = part_for (made h) p k lt2 ∙ ap (λ (j : ℕ). Some (slice_get (made h) (j + k))) (sym at) ∙ ap (λ (x : Option TurnFrame). Some x) (sym frame) in
    subst (λ (ms : List Mail). SendsAll ms a c) (sym (mails_more game me h p k o (omega (arith, n, l, lt2)) here))
    (sends_then (sent_to game me h p k) (mail_to game me h p o ∷ []) a b c s (sends_one (mail_to game me h p o) b c one))

pub sent_all : (game : Game) (me : ℕ) (h : List Entry) (p : Partner) (k : ℕ) (a b : List Item) → k ≡ count_for (made_count h) p → SendsAll (sent_to game me h p k) a b → SendsAll (mails_to game me h p) a b
sent_all game me h p k a b is s =
    let n = long_next (made h) p in
    let l = long_parts (next_frames (made h) p) in
    let all : k ≡ length (parts (next_frames (made h) p)) = omega (arith, is, n, l) in
    subst (λ (ms : List Mail). SendsAll ms a b) (ap (λ (j : ℕ). map (mail_to game me h p) (take j (parts (next_frames (made h) p)))) all ∙ ap (map (mail_to game me h p)) (take-length (parts (next_frames (made h) p)))) s

-- ---- to all players

pub batch_more : (game : Game) (me : ℕ) (h : List Entry) (ps : List Partner) (k : ℕ) (p : Partner) (a b c : List Item) → k < length ps → p ≡ get_or ps k p → SendsAll (batch_of game me h (take k ps)) a b → SendsAll (mails_to game me h p) b c →
    SendsAll (batch_of game me h (take (k + 1) ps)) a c
batch_more game me h ps k p a b c lt is s one =
    let more : batch_of game me h (take (k + 1) ps) ≡ batch_of game me h (take k ps) ++ mails_to game me h p =
    ap (batch_of game me h) (take_more ps k p lt ∙ ap (λ (x : Partner). take k ps ++ x ∷ []) (sym is))
    ∙ flat_map-append (mails_to game me h) (take k ps) (p ∷ []) ∙ ap (λ (ms : List Mail). batch_of game me h (take k ps) ++ ms) (append-nil (mails_to game me h p)) in
    subst (λ (ms : List Mail). SendsAll ms a c) (sym more) (sends_then (batch_of game me h (take k ps)) (mails_to game me h p) a b c s one)

-- ---- what is shown after a batch

drop_first : (ms : List Mail) (k : ℕ) (m : Mail) (rest : List Mail) → drop k ms ≡ m ∷ rest → (slice_get ms k ≡ Some m) × (drop (k + 1) ms ≡ rest)
drop_first [] zero m rest e = absurd (cc)
drop_first [] (suc k) m rest e = absurd (cc)
drop_first (x ∷ ms) zero m rest e = (cc, cc)
drop_first (x ∷ ms) (suc k) m rest e = (let r = drop_first ms k m rest e in let n : suc k + 1 ≡ suc (k + 1) = omega arith in (r.0, ap (λ (j : ℕ). drop j (x ∷ ms)) n ∙ r.1))

same_mail : (m : Mail) → is_mail (Some m) m.to m.bytes ≡ true
same_mail m = and_from _ _ (same_addr m.to) ((bytes_eq-Decides m.bytes m.bytes).1 refl)

abbrev sent_view : View → ℕ → View
sent_view v n = record v { settling = record v.settling { sent = n } }

item_may : (v : View) (m : Mail) (s : Sent) → may_give v m.to m.bytes ≡ true → (is_allowed v (send_item s m.to m.bytes) ≡ true) × (after v (send_item s m.to m.bytes) ≡ record v { settling = record v.settling { sent = v.settling.sent + 1 } })
item_may v m S.Gave h = (h, refl)
item_may v m S.NotYet h = (h, refl)
item_may v m S.Failed h = (h, refl)

-- the rest of a batch
batch_follows : (v : View) (k : ℕ) (ms : List Mail) (items : List Item) → may_send v ≡ true → v.settling.sent ≡ k → drop k (batch v) ≡ ms → AreAnswers ms items →
    (are_allowed v items ≡ true) × (view_after v items ≡ record v { settling = record v.settling { sent = k + length ms } })
batch_follows v k [] [] may at rest a = (refl, ap (λ (n : ℕ). record v { settling = record v.settling { sent = n } }) (let e = at in omega (arith, e)))
batch_follows v k [] (x ∷ items) may at rest a = absurd (cc)
batch_follows v k (m ∷ ms) [] may at rest a = absurd a
batch_follows v k (m ∷ ms) (x ∷ items) may at rest a =
    let d = drop_first (batch v) k m ms rest in
    let give : may_give v m.to m.bytes ≡ true = and_from _ _ may (ap (λ (n : ℕ). is_mail (slice_get (batch v) n) m.to m.bytes) at ∙ ap (λ (o : Option Mail). is_mail o m.to m.bytes) d.0 ∙ same_mail m) in
    let one = item_may v m a.0.0 give in
    let w : View = record v { settling = record v.settling { sent = v.settling.sent + 1 } } in
    let ih = batch_follows w (k + 1) ms items may (ap (λ (n : ℕ). n + 1) at) d.1 a.1 in
    let next : after v x ≡ w = ap (after v) a.0.1 ∙ one.1 in (
      and_from _ _ (ap (is_allowed v) a.0.1 ∙ one.0) (ap (λ (u : View). are_allowed u items) next ∙ ih.0),
      ap (λ (u : View). view_after u items) next ∙ ih.1 ∙ ap (λ (n : ℕ). record v { settling = record v.settling { sent = n } }) (omega arith),
    )

pub sends_follow : (v : View) (before now : List Item) → may_send v ≡ true → v.settling.sent ≡ 0 → SendsAll (batch v) before now → Follows v (record v { settling = record v.settling { sent = length (batch v) } }) before now
sends_follow v before now may none s =
    let f = batch_follows v 0 (batch v) s.items may none refl s.answers in
    let e : 0 + length (batch v) ≡ length (batch v) = omega arith in
    record { more = s.items; grown = s.told; allowed = f.0; shown = f.1 ∙ ap (sent_view v) e }

-- ---- after it a poll is licensed, or nobody is waited for

-- the batch may be sent
pub serving_may : (l : LoopState) (w : List Arrival) (settling : Settling) → IsServing l → still_new l.peer.game l.peer.me (kept_of l) w ≡ [] → settling.is_received ≡ true → may_send (view_of w settling l) ≡ true
serving_may l w settling s handled all =
    let kept = all_kept l s.ready.kept in
    let still : is_still l.peer.game l.peer.me (kept_of l) ≡ true = ap (is_still l.peer.game l.peer.me) kept ∙ and_from _ _ (and_from _ _ (ap not s.chosen) (ap (λ (o : Option TurnFrame). is_none o) s.made)) s.clean in
    and_from _ _ (and_from _ _ (ap is_running s.ready.running) all)
    (and_from _ _ (and_from _ _ still (ap (is_empty {X = Arrival}) handled)) (eq-eqb l.synced (length (kept_of l)) (s.ready.synced ∙ sym (few_kept l (let e = s.ready.kept in omega (arith, e))))))

empty_of : (ns : List Need) → not (is_empty ns) ≡ false → ns ≡ []
empty_of [] e = refl
empty_of (n ∷ ns) e = absurd (false≢true (sym e))

done_of : (game : Game) (me : ℕ) (h : List Entry) → 1 ≤ game.ahead → IsHonest game me h → is_clean game h ≡ true → next_made game me h ≡ None → may_choose game me h ≡ false → needs game me h ≡ [] → IsDone game me h
done_of game me h d honest clean made chosen none = pick (stands_one_way game me h d honest clean made)
  where
    pick : ExactlyOne (may_choose game me h ≡ true) (needs game me h ≡ [] → ⊥) (IsDone game me h) → IsDone game me h
    pick (inl c) = absurd (false≢true (sym chosen ∙ c.0))
    pick (inr (inl n)) = absurd (n.1 none)
    pick (inr (inr x)) = x.2

-- why it ended so
pub data Verdict (settled : Settled) (waits : Bool) : Type 0 where
  Waits : settled ≡ P.Idle → waits ≡ true → Verdict settled waits
  Ends : settled ≡ P.Done → waits ≡ false → Verdict settled waits

served : (settled : Settled) (w : List Arrival) (settling : Settling) (l : LoopState) → IsServing l → 1 ≤ l.peer.game.ahead → IsHonest l.peer.game l.peer.me l.peer.entries → is_through (view_of w settling l) ≡ true →
    Verdict settled (is_waited_for_by l.peer.game l.peer.me l.peer.entries l.partners) → StandsServed settled (view_of w settling l) l
served settled w settling l s d honest through (Waits e waits) =
    subst (λ (x : Settled). StandsServed x (view_of w settling l) l) (sym e)
    (and_from _ _ through (ap (λ (h : List Entry). is_waited_for_by l.peer.game l.peer.me h l.partners) (all_kept l s.ready.kept) ∙ waits))
served settled w settling l s d honest through (Ends e waits) =
    subst (λ (x : Settled). StandsServed x (view_of w settling l) l) (sym e) (
      through,
      ap (λ (h : List Entry). is_waited_for_by l.peer.game l.peer.me h l.partners) (all_kept l s.ready.kept) ∙ waits,
      done_of l.peer.game l.peer.me l.peer.entries d honest s.clean s.made s.chosen
          (empty_of (needs l.peer.game l.peer.me l.peer.entries) (or_parts (not (is_empty (needs l.peer.game l.peer.me l.peer.entries))) (list_any (lacks (made_count l.peer.entries)) l.partners) waits).0),
    )

pub serves : (settled : Settled) (before now : List Item) (l : LoopState) → IsServing l → 1 ≤ l.peer.game.ahead → IsHonest l.peer.game l.peer.me l.peer.entries → SendsAll (batch_of l.peer.game l.peer.me l.peer.entries l.partners) before now →
    Verdict settled (is_waited_for_by l.peer.game l.peer.me l.peer.entries l.partners) → Serves settled before now l
serves settled before now l s d honest all how w settling handled received none =
    let v = view_of w settling l in
    let may = serving_may l w settling s handled received in
    record {
      follows = sends_follow v before now may none (subst (λ (h : List Entry). SendsAll (batch_of l.peer.game l.peer.me h l.partners) before now) (sym (all_kept l s.ready.kept)) all);
      stands = served settled w (record settling { sent = length (batch v) }) l s d honest (and_from _ _ may (eq-eqb (length (batch v)) (length (batch v)) refl)) how;
    }

-- by the test
pub serves_waits : (r : Bool) (before now : List Item) (l : LoopState) → IsServing l → 1 ≤ l.peer.game.ahead → IsHonest l.peer.game l.peer.me l.peer.entries → SendsAll (batch_of l.peer.game l.peer.me l.peer.entries l.partners) before now →
    r ≡ is_waited_for_by l.peer.game l.peer.me l.peer.entries l.partners → r ≡ true → Serves P.Idle before now l
serves_waits r before now l s d honest all is on = serves P.Idle before now l s d honest all (Waits refl (sym is ∙ on))

pub serves_ends : (r : Bool) (before now : List Item) (l : LoopState) → IsServing l → 1 ≤ l.peer.game.ahead → IsHonest l.peer.game l.peer.me l.peer.entries → SendsAll (batch_of l.peer.game l.peer.me l.peer.entries l.partners) before now →
    r ≡ is_waited_for_by l.peer.game l.peer.me l.peer.entries l.partners → r ≡ false → Serves P.Done before now l
serves_ends r before now l s d honest all is off = serves P.Done before now l s d honest all (Ends refl (sym is ∙ off))

-- each partner is another player of the session
pub known_at : (n : ℕ) (ps : List Partner) (k : ℕ) (d : Partner) → EachIs (λ p. p.link.player < n) ps → k < length ps → (get_or ps k d).link.player < n
known_at n [] k d e h = absurd (omega (arith, h))
known_at n (p ∷ ps) zero d e h = e.0
known_at n (p ∷ ps) (suc k) d e h = known_at n ps k d e.1 (omega (arith, h))

pub few_of : (count k made : ℕ) (p : Partner) → count ≡ count_for made p → k < count → k < MOST_FRAMES
few_of count k made p is lt = omega (arith, is, lt)

pub from_few : (from made : ℕ) (p : Partner) → from ≡ asked made p → from ≤ made
from_few from made p is = omega (arith, is)

pub lt_by : (k n : ℕ) (ps : List Partner) → n ≡ length ps → k < n → k < length ps
lt_by k n ps is lt = omega (arith, is, lt)

pub batch_all : (game : Game) (me : ℕ) (h : List Entry) (ps : List Partner) (k : ℕ) (a b : List Item) → k ≡ length ps → SendsAll (batch_of game me h (take k ps)) a b → SendsAll (batch_of game me h ps) a b
batch_all game me h ps k a b all s = subst (λ (xs : List Partner). SendsAll (batch_of game me h xs) a b) (ap (λ (n : ℕ). take n ps) all ∙ take-length ps) s
