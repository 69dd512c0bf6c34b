-- InOrder: logs that got each other's frames in the order in which they were made, with none left out.
use Rattle.std.proofs.Common.{◌≡◌, ◌⊎◌, inl, inr, ℕ, zero, suc, ◌+◌, ◌*◌, ◌<◌, ◌≤◌, Bool, true, false, List, [], ◌∷◌, ◌++◌, Option, None, Some, length, slice_get, take, drop, refl, sym, ◌∙◌, ap, subst, append_assoc, length-append, length-take, arith}
use Rattle.std.specs.Prelude.{not, ◌&&◌, ◌==◌, if◌then◌else◌}
use Rattle.std.proofs.lemmas.Bool.{and_from, cond-false, eq-eqb, ne_eqb, lt-ltb, false≢true}
use Rattle.std.proofs.lemmas.List.{take-append-drop, take-append-le}
use Rattle.std.proofs.lemmas.Option.{slice_get_within}
use Rattle.definitions.specs.declared.world.Move.{Move}
use Rattle.definitions.specs.declared.openings.Nonce.{Nonce}
use Rattle.definitions.specs.declared.frames.TurnFrame.{TurnFrame}
use Rattle.definitions.specs.declared.logs.Entry.{Entry}
use Rattle.definitions.specs.declared.logs.Entry.TheVariants.{Chose, Made, Got}
use Rattle.definitions.specs.Advance.{advance, advance_by, next_made, with_made}
use Rattle.definitions.specs.Answers.{is_far, is_of_another, is_same, place_of}
use Rattle.definitions.specs.Findings.{is_clean}
use Rattle.definitions.specs.Held.{known, known_to, next_place, places_in}
use Rattle.definitions.specs.Honest.{IsHonest, chosen_track, made_count}
use Rattle.definitions.specs.Logs.{chosen, chosen_in, got_in, got_of, made, player_of}
use Rattle.definitions.specs.Moves.{is_legal}
use Rattle.definitions.specs.Needs.{may_choose}
use Rattle.definitions.specs.Steps.{Logs, after_choice, after_got, is_taken_in, log_of, with_log}
use Rattle.definitions.specs.World.{Game, players_of}
use Rattle.definition_laws.specs.Members.{Has}
use Rattle.definition_laws.proofs.Answering.{far_is_past, same_is_there}
use Rattle.definition_laws.proofs.Chosen.{chosen_push, made_push}
use Rattle.definition_laws.proofs.ForPeers.{made_item_place}
use Rattle.definition_laws.proofs.Listing.{append_nil, flat_map_append, slice_get_take, take_more}
use Rattle.definition_laws.proofs.Members.{Has_flat_map, Has_slice_get, slice_get_Has}
use Rattle.definition_laws.proofs.OwnLog.{frames_of_own, next_place_own}
use Rattle.definition_laws.proofs.Permits.{IsHonest_prefix}
use Rattle.definition_laws.proofs.Standing.{made_count_most}
use Rattle.definition_laws.proofs.Stepping.{log_of_set}
use Rattle.definition_laws.proofs.WellFormed.{got_entry}

-- the frames that the log got of q are the first that q's own log made
abbrev pub Fits : (q : ℕ) → (own h : List Entry) → Type 0
Fits q own h = got_of q h ≡ take (length (got_of q h)) (made own)

-- the same of each two players
abbrev pub InOrder : Logs → Type 0
InOrder logs = (p q : ℕ) (h own : List Entry) → log_of logs p ≡ Some h → log_of logs q ≡ Some own → (q ≡ p → ⊥) → Fits q own h

front_few : (fs gs : List TurnFrame) → fs ≡ take (length fs) gs → length fs ≤ length gs
front_few fs gs e =
    let long : length fs ≡ length (take (length fs) gs) = ap length e in
    let least = length-take (length fs) gs in
    omega (arith, long, least)

pub fits_few : (q : ℕ) (own h : List Entry) → Fits q own h → length (got_of q h) ≤ made_count own
fits_few q own h e = front_few (got_of q h) (made own) e

-- ---- what is known of a player then

-- a beginning of a log that made the first so many of its frames
log_front : (h : List Entry) (n : ℕ) → n ≤ made_count h → (k : ℕ) × (made (take k h) ≡ take n (made h))
unfolding made
log_front [] zero le = (0, refl)
log_front [] (suc n) le = absurd (omega (arith, le))
log_front (Chose t m o ∷ es) n le = let r = log_front es n le in (suc r.0, r.1)
log_front (Got q f ∷ es) n le = let r = log_front es n le in (suc r.0, r.1)
log_front (Made f ∷ es) zero le = (0, refl)
log_front (Made f ∷ es) (suc n) le = let r = log_front es n (omega (arith, le)) in (suc r.0, ap (λ (fs : List TurnFrame). f ∷ fs) r.1)

known_of_own : (game : Game) (q : ℕ) (g : List Entry) → known game q g q ≡ known_to game q (made g) (2 * game.turns)
unfolding known
known_of_own game q g = ap (λ (fs : List TurnFrame). known_to game q fs (2 * game.turns)) (frames_of_own q g)

known_of_other : (game : Game) (p q : ℕ) (h : List Entry) → (q ≡ p → ⊥) → known game p h q ≡ known_to game q (got_of q h) (2 * game.turns)
unfolding known
known_of_other game p q h other = ap (λ (fs : List TurnFrame). known_to game q fs (2 * game.turns)) (cond-false (q == p) (made h) (got_of q h) (ne_eqb q p other))

-- the next place of a player is how many of its frames came
pub next_is_count : (game : Game) (p q : ℕ) (own h : List Entry) → 1 ≤ game.ahead → IsHonest game q own → (q ≡ p → ⊥) → Fits q own h → next_place game p h q ≡ length (got_of q h)
next_is_count game p q own h d i other fits =
    let n : ℕ = length (got_of q h) in
    let front = log_front own n (fits_few q own h fits) in
    let begun : IsHonest game q (take front.0 own) = IsHonest_prefix game q (take front.0 own) (drop front.0 own) (subst (λ (k : List Entry). IsHonest game q k) (sym (take-append-drop front.0 own)) i) in
    let same : got_of q h ≡ made (take front.0 own) = fits ∙ sym front.1 in
    let places : List TurnFrame → ℕ = λ fs. places_in (known_to game q fs (2 * game.turns)) in
    ap places_in (known_of_other game p q h other) ∙ ap places same ∙ ap places_in (sym (known_of_own game q (take front.0 own))) ∙
    next_place_own game q (take front.0 own) d begun ∙ ap length (sym same)

-- ---- whether a frame is taken

module _ (game : Game) (p q : ℕ) (own h : List Entry) (f : TurnFrame) (ahead : 1 ≤ game.ahead) (honest : IsHonest game q own) (other : q ≡ p → ⊥) (fits : Fits q own h) where
  got_there : Has h (Got q f) → Has (got_of q h) f
  unfolding got_of
  got_there m = Has_flat_map (got_in q) h (Got q f) f m (itself (q == q) (eq-eqb q q refl))
    where
      itself : (b : Bool) → b ≡ true → Has (if b then f ∷ [] else []) f
      itself true e = inl refl
      itself false e = absurd (false≢true e)

  -- one that came before is not
  pub taken_not : (k : ℕ) → slice_get (made own) k ≡ Some f → k < length (got_of q h) → is_taken_in game p h q f ≡ false
  taken_not k at lt =
      let front : slice_get (got_of q h) k ≡ Some f = ap (λ (fs : List TurnFrame). slice_get fs k) fits ∙ slice_get_take (length (got_of q h)) k (made own) lt ∙ at in
      let same : is_same h q f ≡ true = (same_is_there q h f).1 (got_entry q h f (slice_get_Has (got_of q h) k f front)) in
      go (is_clean game h) (is_of_another game p q f) (is_far game p h q f) (is_same h q f) same
    where
      go : (a b c d : Bool) → d ≡ true → (a && b && (not c && not d)) ≡ false
      go a b c false e = absurd (false≢true e)
      go false b c true e = refl
      go true false c true e = refl
      go true true false true e = refl
      go true true true true e = refl

  -- the next one is
  pub taken_next : slice_get (made own) (length (got_of q h)) ≡ Some f → q < players_of game → is_clean game h ≡ true → is_taken_in game p h q f ≡ true
  taken_next at inside clean =
      let n : ℕ = length (got_of q h) in
      let item = made_item_place game q n own f ahead honest at in
      let another : is_of_another game p q f ≡ true =
      and_from _ _ (and_from _ _ (lt-ltb q (players_of game) inside) (ap not (ne_eqb q p other))) (eq-eqb (player_of f) q item.1) in
      let near : is_far game p h q f ≡ false = not_far item.0 (is_far game p h q f) refl in
      let new : is_same h q f ≡ false = not_same item.0 (is_same h q f) refl in
      go (is_clean game h) (is_of_another game p q f) (is_far game p h q f) (is_same h q f) clean another near new
    where
      go : (a b c d : Bool) → a ≡ true → b ≡ true → c ≡ false → d ≡ false → (a && b && (not c && not d)) ≡ true
      go a b c d ea eb ec ed = rw (ea, eb, ec, ed) refl

      not_far : place_of game f ≡ length (got_of q h) → (b : Bool) → is_far game p h q f ≡ b → b ≡ false
      not_far place false e = refl
      not_far place true e =
          let next = next_is_count game p q own h ahead honest other fits in
          let few = made_count_most game q own ahead honest in
          let within = slice_get_within (made own) (length (got_of q h)) f at in
          absurd (past next few within ((far_is_past game p q h f).0 e))
        where
          past : next_place game p h q ≡ length (got_of q h) → made_count own ≤ 2 * game.turns → length (got_of q h) < length (made own) →
              (next_place game p h q + 8 < place_of game f) ⊎ (2 * game.turns ≤ place_of game f) → ⊥
          past next few within (inl lt) = omega (arith, next, lt, place)
          past next few within (inr le) = omega (arith, few, within, le, place)

      not_same : place_of game f ≡ length (got_of q h) → (b : Bool) → is_same h q f ≡ b → b ≡ false
      not_same place false e = refl
      not_same place true e =
          let i = Has_slice_get (got_of q h) f (got_there ((same_is_there q h f).0 e)) in
          let low = slice_get_within (got_of q h) i.0 f i.1 in
          let made_at : slice_get (made own) i.0 ≡ Some f =
          sym (slice_get_take (length (got_of q h)) i.0 (made own) low) ∙ sym (ap (λ (fs : List TurnFrame). slice_get fs i.0) fits) ∙ i.1 in
          let item = made_item_place game q i.0 own f ahead honest made_at in
          let early = item.0 in
          absurd (omega (arith, early, place, low))

-- ---- how a log goes on

-- the log made more, and else nothing came
pub record Advanced (g k : List Entry) : Type 0 where
  pub got : (q : ℕ) → got_of q k ≡ got_of q g
  pub chose : (me : ℕ) → chosen me k ≡ chosen me g
  pub more : List TurnFrame
  pub makes : made k ≡ made g ++ more

got_push : (q : ℕ) (g : List Entry) (e : Entry) → got_of q (g ++ e ∷ []) ≡ got_of q g ++ (got_in q e ++ [])
unfolding got_of
got_push q g e = flat_map_append (got_in q) g (e ∷ [])

advanced_same : (g : List Entry) → Advanced g g
advanced_same g = record { got = λ q. refl; chose = λ me. refl; more = []; makes = sym (append_nil (made g)) }

advanced_on : (g h k : List Entry) → Advanced g h → Advanced h k → Advanced g k
advanced_on g h k a b = record {
  got = λ q. b.got q ∙ a.got q;
  chose = λ me. b.chose me ∙ a.chose me;
  more = a.more ++ b.more;
  makes = b.makes ∙ ap (λ (fs : List TurnFrame). fs ++ b.more) a.makes ∙ append_assoc (made g) a.more b.more;
}

advanced_made : (g : List Entry) (f : TurnFrame) → Advanced g (g ++ Made f ∷ [])
advanced_made g f = record {
  got = λ q. got_push q g (Made f) ∙ append_nil (got_of q g);
  chose = λ me. chosen_push me g (Made f) ∙ append_nil (chosen me g);
  more = f ∷ [];
  makes = made_push g (Made f);
}

advanced_by : (game : Game) (me n : ℕ) (g : List Entry) → Advanced g (advance_by game me n g)
unfolding advance_by
advanced_by game me zero g = advanced_same g
advanced_by game me (suc n) g = advanced_on g (with_made g (next_made game me g)) _ (one (next_made game me g)) (advanced_by game me n (with_made g (next_made game me g)))
  where
    one : (o : Option TurnFrame) → Advanced g (with_made g o)
    one None = advanced_same g
    one (Some f) = advanced_made g f

advanced : (game : Game) (me : ℕ) (g : List Entry) → Advanced g (advance game me g)
unfolding advance
advanced game me g = advanced_by game me (2 * game.turns) g

-- the owner chose once more
pub record ChoseOne (p : ℕ) (h k : List Entry) : Type 0 where
  pub got : (q : ℕ) → got_of q k ≡ got_of q h
  pub one : length (chosen p k) ≡ length (chosen p h) + 1
  pub more : List TurnFrame
  pub makes : made k ≡ made h ++ more

pub chose_one : (game : Game) (p : ℕ) (h : List Entry) (m : Move) (n : Nonce) → may_choose game p h ≡ true → is_legal game p (chosen_track game p h) m ≡ true → ChoseOne p h (after_choice game p h m n)
chose_one game p h m n may legal = go (may_choose game p h && is_legal game p (chosen_track game p h) m) (and_from _ _ may legal)
  where
    go : (b : Bool) → b ≡ true → ChoseOne p h (if b then advance game p (h ++ Chose (length (chosen p h)) m n ∷ []) else h)
    go false e = absurd (false≢true e)
    go true e =
        let entry : Entry = Chose (length (chosen p h)) m n in
        let on = advanced game p (h ++ entry ∷ []) in
        record {
          got = λ q. on.got q ∙ got_push q h entry ∙ append_nil (got_of q h);
          one = ap length (on.chose p ∙ chosen_push p h entry) ∙ length-append (chosen p h) (chosen_in p entry);
          more = on.more;
          makes = on.makes ∙ ap (λ (fs : List TurnFrame). fs ++ on.more) (made_push h entry ∙ append_nil (made h));
        }

-- this frame of q came too
pub record GotOne (q : ℕ) (f : TurnFrame) (h k : List Entry) : Type 0 where
  pub one : got_of q k ≡ got_of q h ++ f ∷ []
  pub others : (r : ℕ) → (r ≡ q → ⊥) → got_of r k ≡ got_of r h
  pub chose : (me : ℕ) → chosen me k ≡ chosen me h
  pub more : List TurnFrame
  pub makes : made k ≡ made h ++ more

pub got_one : (game : Game) (p q : ℕ) (h : List Entry) (f : TurnFrame) → is_taken_in game p h q f ≡ true → GotOne q f h (after_got game p h q f)
got_one game p q h f taken = go (is_taken_in game p h q f) taken
  where
    its : got_in q (Got q f) ≡ f ∷ []
    its = ap (λ (b : Bool). if b then f ∷ [] else []) (eq-eqb q q refl)

    not_its : (r : ℕ) → (r ≡ q → ⊥) → got_in r (Got q f) ≡ []
    not_its r differs = ap (λ (b : Bool). if b then f ∷ [] else []) (ne_eqb q r (λ e. differs (sym e)))

    go : (b : Bool) → b ≡ true → GotOne q f h (if b then advance game p (h ++ Got q f ∷ []) else h)
    go false e = absurd (false≢true e)
    go true e =
        let on = advanced game p (h ++ Got q f ∷ []) in
        record {
          one = on.got q ∙ got_push q h (Got q f) ∙ ap (λ (fs : List TurnFrame). got_of q h ++ (fs ++ [])) its;
          others = λ r differs. on.got r ∙ got_push r h (Got q f) ∙ ap (λ (fs : List TurnFrame). got_of r h ++ (fs ++ [])) (not_its r differs) ∙ append_nil (got_of r h);
          chose = λ me. on.chose me ∙ chosen_push me h (Got q f) ∙ append_nil (chosen me h);
          more = on.more;
          makes = on.makes ∙ ap (λ (fs : List TurnFrame). fs ++ on.more) (made_push h (Got q f) ∙ append_nil (made h));
        }

pub got_nothing : (game : Game) (p q : ℕ) (h : List Entry) (f : TurnFrame) → is_taken_in game p h q f ≡ false → after_got game p h q f ≡ h
got_nothing game p q h f not_taken = cond-false (is_taken_in game p h q f) _ h not_taken

-- ---- and all logs stay in order

fits_more : (q : ℕ) (own k g : List Entry) (more : List TurnFrame) → made k ≡ made own ++ more → Fits q own g → Fits q k g
fits_more q own k g more e fits =
    fits ∙ sym (take-append-le (length (got_of q g)) (made own) more (fits_few q own g fits)) ∙ ap (take (length (got_of q g))) (sym e)

pub fits_same : (q : ℕ) (own h k : List Entry) → got_of q k ≡ got_of q h → Fits q own h → Fits q own k
fits_same q own h k e fits = e ∙ fits ∙ ap (λ (fs : List TurnFrame). take (length fs) (made own)) (sym e)

pub fits_next : (q : ℕ) (own h k : List Entry) (f : TurnFrame) → slice_get (made own) (length (got_of q h)) ≡ Some f → got_of q k ≡ got_of q h ++ f ∷ [] → Fits q own h → Fits q own k
fits_next q own h k f at e fits =
    let long : length (got_of q k) ≡ length (got_of q h) + 1 = ap length e ∙ length-append (got_of q h) (f ∷ []) in
    e ∙ ap (λ (fs : List TurnFrame). fs ++ f ∷ []) fits ∙ sym (take_more (length (got_of q h)) (made own) f at) ∙ ap (λ (n : ℕ). take n (made own)) (sym long)

-- where one log went on that fits all others still
pub order_set : (logs : Logs) (p : ℕ) (h k : List Entry) (more : List TurnFrame) → InOrder logs → log_of logs p ≡ Some h → made k ≡ made h ++ more →
    ((q : ℕ) (own : List Entry) → log_of logs q ≡ Some own → (q ≡ p → ⊥) → Fits q own k) → InOrder (with_log logs p (Some k))
order_set logs p h k more all at makes new r q g own at_r at_q differs = go (log_of_set logs p r (Some k) g at_r) (log_of_set logs p q (Some k) own at_q)
  where
    go : (log_of logs r ≡ Some g) ⊎ ((r ≡ p) × (Some k ≡ Some g)) → (log_of logs q ≡ Some own) ⊎ ((q ≡ p) × (Some k ≡ Some own)) → Fits q own g
    go (inl a) (inl b) = all r q g own a b differs
    go (inl a) (inr b) =
        let its : log_of logs q ≡ Some h = ap (log_of logs) b.0 ∙ at in
        let same : k ≡ own = (let w = b.1 in cc) in
        subst (λ (l : List Entry). Fits q l g) same (fits_more q h k g more makes (all r q g h a its differs))
    go (inr a) (inl b) =
        let same : k ≡ g = (let w = a.1 in cc) in
        subst (λ (l : List Entry). Fits q own l) same (new q own b (λ e. differs (e ∙ sym a.0)))
    go (inr a) (inr b) = absurd (differs (b.0 ∙ sym a.0))
