-- Going: a match of eight players over 200 turns step by step: what was counted is what their logs show.
use Rattle.std.proofs.Common.{◌≡◌, inl, inr, ℕ, ◌+◌, ◌<◌, ◌≤◌, Bool, true, false, List, [], ◌∷◌, Option, Some, length, slice_get, refl, sym, ◌∙◌, ap, subst, length-append, arith}
use Rattle.std.specs.Prelude.{option_map, ◌==◌}
use Rattle.std.proofs.lemmas.Bool.{cases_eq, cases_lt, cond-false, cond-true, eq-eqb, false≢true, ne_eqb}
use Rattle.plain_lemmas.proofs.Options.{some_of}
use Rattle.definitions.specs.declared.world.Move.{Move}
use Rattle.definitions.specs.declared.openings.Nonce.{Nonce}
use Rattle.definitions.specs.declared.frames.TurnFrame.{TurnFrame}
use Rattle.definitions.specs.declared.logs.Entry.{Entry}
use Rattle.definitions.specs.Honest.{IsHonest, chosen_track, made_count}
use Rattle.definitions.specs.Logs.{chosen, got_of, made}
use Rattle.definitions.specs.Moves.{is_legal}
use Rattle.definitions.specs.Needs.{may_choose}
use Rattle.definitions.specs.Steps.{Choose, Deliver, Logs, after, after_choice, after_got, log_after_frame, log_of, made_at, with_log}
use Rattle.definitions.specs.World.{Game, players_of}
use Rattle.definition_laws.proofs.OwnLog.{own_honest}
use Rattle.definition_laws.proofs.Standing.{made_count_most}
use Rattle.definition_laws.proofs.Nexts.{some_at}
use Rattle.schedule.proofs.Idling.{honest_within}
use Rattle.make_command.proofs.Counted.{chosen_by, chosen_in, chosen_kept, chosen_more, entries_at, got_by, got_from_all, got_in_all, got_kept, got_more, log_off, log_on, log_stays}
use Rattle.make_command.specs.Audits.{entries_by}
use Rattle.make_command.proofs.Fair.{AreSound, clean_alone, sound_choice, sound_delivery}
use Rattle.make_command.proofs.InOrder.{Fits, InOrder, chose_one, fits_few, fits_next, fits_same, got_nothing, got_one, order_set, taken_next, taken_not}
use Rattle.make_command.proofs.Standing.{IsNext}
use Rattle.make_command.proofs.Totals.{all_200, all_2800, all_400, but_at, but_off, total, total_but, total_most}

abbrev pub one_if : Bool → ℕ
one_if true = 1
one_if false = 0

one_most : (b : Bool) → one_if b ≤ 1
one_most true = omega arith
one_most false = omega arith

-- The logs are those of eight players over 200 turns, in order, and these numbers of choices, deliveries and losses are counted; whether
-- the frame before was lost.
pub record Goes (game : Game) (logs : Logs) (chose came gone : ℕ) (was_lost : Bool) : Type 0 where
  pub sound : AreSound game logs
  pub size : players_of game ≡ 8
  pub turns : game.turns ≡ 200
  pub order : InOrder logs
  pub chosen : chose ≡ chosen_in logs
  pub delivered : came ≡ got_in_all logs
  pub lost : gone ≤ came + one_if was_lost
  pub room : was_lost ≡ true → came < 22400

-- how far the counts can come
pub record AreLow (chose came gone : ℕ) : Type 0 where
  pub chosen : chose ≤ 1600
  pub delivered : came ≤ 22400
  pub lost : gone ≤ 22400

module _ (game : Game) (logs : Logs) (w : AreSound game logs) (size : players_of game ≡ 8) (turns : game.turns ≡ 200) (order : InOrder logs) where
  pub log_there : (p : ℕ) → p < 8 → (h : List Entry) × (log_of logs p ≡ Some h)
  log_there p lt = some_of (log_of logs p) (w.all p (omega (arith, lt, size)))

  pub chosen_is : (p : ℕ) (h : List Entry) → log_of logs p ≡ Some h → chosen_by logs p ≡ length (chosen p h)
  chosen_is p h at = ap (λ (es : List Entry). length (chosen p es)) (entries_at logs p h at)

  pub got_is : (p q : ℕ) (h : List Entry) → log_of logs p ≡ Some h → (q ≡ p → ⊥) → got_by logs p q ≡ length (got_of q h)
  got_is p q h at differs =
      cond-false (q == p) 0 (length (got_of q (entries_by logs p))) (ne_eqb q p differs) ∙ ap (λ (es : List Entry). length (got_of q es)) (entries_at logs p h at)

  pub got_self : (p q : ℕ) → q ≡ p → got_by logs p q ≡ 0
  got_self p q same = cond-true (q == p) 0 (length (got_of q (entries_by logs p))) (eq-eqb q p same)

  low : (a b c : ℕ) → a ≡ b → b ≤ c → a ≤ c
  low a b c e le = omega (arith, e, le)

  chosen_most : (p : ℕ) → p < 8 → chosen_by logs p ≤ 200
  chosen_most p lt =
      let h = log_there p lt in
      let few = (own_honest game p h.0 w.session.ahead.0 (w.fair.honest p h.0 h.1)).few in
      low (chosen_by logs p) (length (chosen p h.0)) 200 (chosen_is p h.0 h.1) (omega (arith, few, turns))

  got_most : (p : ℕ) → p < 8 → (q : ℕ) → q < 8 → got_by logs p q ≤ but_at p 400 q
  got_most p lt q below = elim (cases_eq q p) [
    | inl same ↦ zeros (got_by logs p q) (but_at p 400 q) (got_self p q same)
    | inr differs ↦
        let h = log_there p lt in
        let own = log_there q below in
        let came = fits_few q own.0 h.0 (order p q h.0 own.0 h.1 own.1 differs) in
        let most = made_count_most game q own.0 w.session.ahead.0 (w.fair.honest q own.0 own.1) in
        within (got_by logs p q) (length (got_of q h.0)) (made_count own.0) (but_at p 400 q) (got_is p q h.0 h.1 differs) came (omega (arith, most, turns)) (but_off p 400 q differs)
  ]
    where
      zeros : (a b : ℕ) → a ≡ 0 → a ≤ b
      zeros a b e = omega (arith, e)

      within : (a b c d : ℕ) → a ≡ b → b ≤ c → c ≤ 400 → d ≡ 400 → a ≤ d
      within a b c d e le most f = omega (arith, e, le, most, f)

  chosen_in_most : chosen_in logs ≤ 1600
  chosen_in_most = subst (λ (n : ℕ). chosen_in logs ≤ n) all_200 (total_most (chosen_by logs) (λ _. 200) 8 chosen_most)

  got_from_all_most : (p : ℕ) → p < 8 → got_from_all logs p ≤ 2800
  got_from_all_most p lt =
      sums (got_from_all logs p) (total (but_at p 400) 8) (total_most (got_by logs p) (but_at p 400) 8 (got_most p lt)) (total_but p 400 8 lt ∙ all_400)
    where
      sums : (a b : ℕ) → a ≤ b → b + 400 ≡ 3200 → a ≤ 2800
      sums a b le e = omega (arith, le, e)

  got_in_all_most : got_in_all logs ≤ 22400
  got_in_all_most = subst (λ (n : ℕ). got_in_all logs ≤ n) all_2800 (total_most (got_from_all logs) (λ _. 2800) 8 got_from_all_most)

pub are_low : (game : Game) (logs : Logs) (chose came gone : ℕ) (was_lost : Bool) → Goes game logs chose came gone was_lost → AreLow chose came gone
are_low game logs chose came gone was_lost g =
    let delivered : came ≤ 22400 = low game logs g.sound g.size g.turns g.order came (got_in_all logs) 22400 g.delivered (got_in_all_most game logs g.sound g.size g.turns g.order) in
    record {
      chosen = low game logs g.sound g.size g.turns g.order chose (chosen_in logs) 1600 g.chosen (chosen_in_most game logs g.sound g.size g.turns g.order);
      delivered = delivered;
      lost = lost_low was_lost g.lost g.room delivered;
    }
  where
    lost_low : (b : Bool) → gone ≤ came + one_if b → (b ≡ true → came < 22400) → came ≤ 22400 → gone ≤ 22400
    lost_low true le room most = let few = room refl in omega (arith, le, few)
    lost_low false le room most = omega (arith, le, most)

-- ---- the steps

-- a player chooses a legal move
pub goes_chosen : (game : Game) (logs : Logs) (chose came gone : ℕ) (was_lost : Bool) (p : ℕ) (h : List Entry) (m : Move) (n : Nonce) → Goes game logs chose came gone was_lost →
    log_of logs p ≡ Some h → may_choose game p h ≡ true → is_legal game p (chosen_track game p h) m ≡ true → Goes game (after game logs (Choose p m n)) (chose + 1) came gone was_lost
goes_chosen game logs chose came gone was_lost p h m n g at may legal =
    let k : List Entry = after_choice game p h m n in
    let one = chose_one game p h m n may legal in
    let e : after game logs (Choose p m n) ≡ with_log logs p (Some k) = ap (λ (o : Option (List Entry)). with_log logs p (option_map (λ h. after_choice game p h m n) o)) at in
    let inside = honest_within logs p h at in
    let each = g.sound.fair.one_each in
    let size = g.size in
    let lt : p < 8 = omega (arith, inside, each, size) in
    record {
      sound = sound_choice game logs p m n g.sound;
      size = g.size;
      turns = g.turns;
      order = subst InOrder (sym e) (order_set logs p h k one.more g.order at one.makes (λ q own at_q differs. fits_same q own h k (one.got q) (g.order p q h own at at_q differs)));
      chosen = ap (λ (c : ℕ). c + 1) g.chosen ∙ sym (chosen_more logs p h k at lt one.one) ∙ ap chosen_in (sym e);
      delivered = g.delivered ∙ sym (got_kept logs p h k at one.got) ∙ ap got_in_all (sym e);
      lost = g.lost;
      room = g.room;
    }

deliver_is : (game : Game) (logs : Logs) (p q place : ℕ) (h own : List Entry) (f : TurnFrame) → log_of logs p ≡ Some h → log_of logs q ≡ Some own → slice_get (made own) place ≡ Some f →
    after game logs (Deliver q p place) ≡ with_log logs p (Some (after_got game p h q f))
deliver_is game logs p q place h own f at_p at_q at_f =
    ap (λ (o : Option (List Entry)). with_log logs p (log_after_frame game p o q (made_at (log_of logs q) place))) at_p ∙
    ap (λ (o : Option (List Entry)). with_log logs p (log_after_frame game p (Some h) q (made_at o place))) at_q ∙
    ap (λ (o : Option TurnFrame). with_log logs p (log_after_frame game p (Some h) q o)) at_f

-- what is next for a player comes to it
pub goes_delivered : (game : Game) (logs : Logs) (chose came gone : ℕ) (was_lost : Bool) (p q place : ℕ) → Goes game logs chose came gone was_lost → IsNext game logs p q place →
    Goes game (after game logs (Deliver q p place)) chose (came + 1) gone false
goes_delivered game logs chose came gone was_lost p q place g x =
    let f = some_at (made x.own) place x.low in
    let at_f : slice_get (made x.own) (length (got_of q x.h)) ≡ Some f.0 = ap (slice_get (made x.own)) (sym x.place_is) ∙ f.1 in
    let fits : Fits q x.own x.h = g.order p q x.h x.own x.at_p x.at_q x.other in
    let clean = clean_alone game logs p x.h g.sound x.at_p in
    let taken = taken_next game p q x.own x.h f.0 g.sound.session.ahead.0 (g.sound.fair.honest q x.own x.at_q) x.other fits at_f x.inside clean in
    let k : List Entry = after_got game p x.h q f.0 in
    let got = got_one game p q x.h f.0 taken in
    let e : after game logs (Deliver q p place) ≡ with_log logs p (Some k) = deliver_is game logs p q place x.h x.own f.0 x.at_p x.at_q f.1 in
    let inside = honest_within logs p x.h x.at_p in
    let each = g.sound.fair.one_each in
    let size = g.size in
    let known = x.inside in
    let lt : p < 8 = omega (arith, inside, each, size) in
    let low : q < 8 = omega (arith, known, size) in
    record {
      sound = sound_delivery game logs p q place g.sound;
      size = g.size;
      turns = g.turns;
      order = subst InOrder (sym e) (order_set logs p x.h k got.more g.order x.at_p got.makes (λ r own at_r differs. elim (cases_eq r q) [
        | inl same ↦
            let both : Some x.own ≡ Some own = sym x.at_q ∙ ap (log_of logs) (sym same) ∙ at_r in
            let one : x.own ≡ own = cc in
            subst (λ (s : ℕ). Fits s own k) (sym same) (subst (λ (l : List Entry). Fits q l k) one (fits_next q x.own x.h k f.0 at_f got.one fits))
        | inr others ↦ fits_same r own x.h k (got.others r others) (g.order p r x.h own x.at_p at_r differs)
      ]));
      chosen = g.chosen ∙ sym (chosen_kept logs p x.h k x.at_p (got.chose p)) ∙ ap chosen_in (sym e);
      delivered = ap (λ (c : ℕ). c + 1) g.delivered ∙ sym (got_more logs p x.h k x.at_p q f.0 lt low x.other got) ∙ ap got_in_all (sym e);
      lost = one_more (one_if was_lost) (one_most was_lost) g.lost;
      room = λ t. absurd (false≢true t);
    }
  where
    one_more : (n : ℕ) → n ≤ 1 → gone ≤ came + n → gone ≤ came + 1 + 0
    one_more n few le = omega (arith, few, le)

-- it is lost, where the one before wasn't
pub goes_lost : (game : Game) (logs : Logs) (chose came gone : ℕ) (was_lost : Bool) (p q place : ℕ) → was_lost ≡ false → Goes game logs chose came gone was_lost → IsNext game logs p q place →
    Goes game logs chose came (gone + 1) true
goes_lost game logs chose came gone was_lost p q place not_lost g x =
    let most = (are_low game (after game logs (Deliver q p place)) chose (came + 1) gone false (goes_delivered game logs chose came gone was_lost p q place g x)).delivered in
    record {
      sound = g.sound;
      size = g.size;
      turns = g.turns;
      order = g.order;
      chosen = g.chosen;
      delivered = g.delivered;
      lost = one_more (one_if was_lost) (ap one_if not_lost) g.lost;
      room = λ _. omega (arith, most);
    }
  where
    one_more : (n : ℕ) → n ≡ 0 → gone ≤ came + n → gone + 1 ≤ came + 1
    one_more n none le = omega (arith, none, le)

-- a frame up to the next one comes first: that changes nothing but that it may be the next one already
pub deliver_twice : (game : Game) (logs : Logs) (p q place k : ℕ) → AreSound game logs → InOrder logs → IsNext game logs p q place → k ≤ place →
    after game (after game logs (Deliver q p k)) (Deliver q p place) ≡ after game logs (Deliver q p place)
deliver_twice game logs p q place k w order x le = elim (cases_lt k place) [
  | inl lt ↦
      let f = some_at (made x.own) k (let low = x.low in omega (arith, low, lt)) in
      let place_is = x.place_is in
      let not_taken = taken_not game p q x.own x.h f.0 ahead honest x.other fits k f.1 (omega (arith, lt, place_is)) in
      let same : after game logs (Deliver q p k) ≡ logs =
      deliver_is game logs p q k x.h x.own f.0 x.at_p x.at_q f.1 ∙ ap (λ (l : List Entry). with_log logs p (Some l)) (got_nothing game p q x.h f.0 not_taken) ∙ log_stays logs p x.h x.at_p in
      ap (λ (ls : Logs). after game ls (Deliver q p place)) same
  | inr past ↦
      let same : k ≡ place = omega (arith, le, past) in
      let f = some_at (made x.own) place x.low in
      let at_f : slice_get (made x.own) (length (got_of q x.h)) ≡ Some f.0 = ap (slice_get (made x.own)) (sym x.place_is) ∙ f.1 in
      let taken = taken_next game p q x.own x.h f.0 ahead honest x.other fits at_f x.inside (clean_alone game logs p x.h w x.at_p) in
      let got = got_one game p q x.h f.0 taken in
      let l : List Entry = after_got game p x.h q f.0 in
      let e : after game logs (Deliver q p place) ≡ with_log logs p (Some l) = deliver_is game logs p q place x.h x.own f.0 x.at_p x.at_q f.1 in
      let p_has : log_of (with_log logs p (Some l)) p ≡ Some l = log_on logs p (Some l) x.h x.at_p in
      let q_has : log_of (with_log logs p (Some l)) q ≡ Some x.own = log_off logs p (Some l) q x.other ∙ x.at_q in
      let long : length (got_of q l) ≡ length (got_of q x.h) + 1 = ap length got.one ∙ length-append (got_of q x.h) (f.0 ∷ []) in
      let place_is = x.place_is in
      let again = taken_not game p q x.own l f.0 ahead honest x.other (fits_next q x.own x.h l f.0 at_f got.one fits) place f.1 (omega (arith, place_is, long)) in
      let stays : after game (with_log logs p (Some l)) (Deliver q p place) ≡ with_log logs p (Some l) =
      deliver_is game (with_log logs p (Some l)) p q place l x.own f.0 p_has q_has f.1 ∙
      ap (λ (g : List Entry). with_log (with_log logs p (Some l)) p (Some g)) (got_nothing game p q l f.0 again) ∙ log_stays (with_log logs p (Some l)) p l p_has in
      ap (λ (n : ℕ). after game (after game logs (Deliver q p n)) (Deliver q p place)) same ∙ ap (λ (ls : Logs). after game ls (Deliver q p place)) e ∙ stays ∙ sym e
]
  where
    ahead : 1 ≤ game.ahead
    ahead = w.session.ahead.0

    honest : IsHonest game q x.own
    honest = w.fair.honest q x.own x.at_q

    fits : Fits q x.own x.h
    fits = order p q x.h x.own x.at_p x.at_q x.other
