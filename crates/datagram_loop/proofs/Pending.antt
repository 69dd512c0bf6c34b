-- Pending: entries that the frames which wait explain.
use Rattle.std.proofs.Common.{◌≡◌, ℕ, ◌*◌, Bool, true, false, refl, sym, ap, subst, ◌∙◌, List, [], ◌∷◌, ◌++◌, append_assoc, append-nil}
use Rattle.std.specs.Prelude.{Option, None, not, nat_lt, drop, is_none, ◌&&◌, ◌||◌, ◌==◌, if◌then◌else◌}
use Rattle.std.specs.List.{list_any}
use Rattle.std.proofs.lemmas.Bool.{and_parts, and_from, eq-eqb}
use Rattle.std.proofs.lemmas.List.Folds.{list_any-append}
use Rattle.definitions.specs.Lists.{is_empty}
use Rattle.definitions.specs.declared.frames.TurnFrame.{TurnFrame}
use Rattle.definitions.specs.declared.logs.Entry.{Entry}
use Rattle.definitions.specs.declared.logs.Entry.TheVariants.{Chose, Made, Got}
use Rattle.definitions.specs.declared.findings.Finding.{Finding}
use Rattle.definitions.specs.World.{Game, players_of}
use Rattle.definitions.specs.Logs.{made, got_of, entry_eq, player_of}
use Rattle.definitions.specs.Held.{known, known_to, places_in}
use Rattle.definitions.specs.Findings.{is_clean}
use Rattle.definitions.specs.Honest.{allows, allowed}
use Rattle.definitions.specs.Needs.{may_choose}
use Rattle.definitions.specs.Advance.{next_made}
use Rattle.definitions.specs.Answers.{is_beyond, is_far, is_same, is_new, is_of_another}
use Rattle.definition_laws.proofs.Alike.{frame_eq_same}
use Rattle.definition_laws.proofs.Silent.{findings_made, findings_chose, got_push}
use Rattle.peer_rules.specs.declared.arrivals.Arrival.{Arrival}
use Rattle.peer_rules.specs.Order.{comes_next, IsOwn, OwnRun}
use Rattle.post_rules.specs.Handling.{is_new_to, still_new}
use Rattle.peer_rules.specs.Entries.{is_first}
use Rattle.post_rules.specs.Keeping.{may_log, waiting_after}
use Rattle.datagram_loop.specs.Pending.{Explained}

-- ---- an own entry changes nothing of what is new

clean_own : (game : Game) (h : List Entry) (e : Entry) → IsOwn e → is_clean game (h ++ e ∷ []) ≡ is_clean game h
unfolding is_clean
clean_own game h (Chose t m n) o = ap (is_empty {X = Finding}) (findings_chose game h t m n)
clean_own game h (Made f) o = ap (is_empty {X = Finding}) (findings_made game h f)
clean_own game h (Got q f) o = absurd o

got_own : (q : ℕ) (h : List Entry) (e : Entry) → IsOwn e → got_of q (h ++ e ∷ []) ≡ got_of q h
got_own q h (Chose t m n) o = got_push q h (Chose t m n) refl
got_own q h (Made f) o = got_push q h (Made f) refl
got_own q h (Got p f) o = absurd o

known_own : (game : Game) (me q : ℕ) (h : List Entry) (e : Entry) → IsOwn e → (q == me) ≡ false → known game me (h ++ e ∷ []) q ≡ known game me h q
unfolding known
known_own game me q h e o n =
    ap (λ (b : Bool). known_to game q (if b then made (h ++ e ∷ []) else got_of q (h ++ e ∷ [])) (2 * game.turns)) n
    ∙ ap (λ (fs : List TurnFrame). known_to game q fs (2 * game.turns)) (got_own q h e o)
    ∙ sym (ap (λ (b : Bool). known_to game q (if b then made h else got_of q h) (2 * game.turns)) n)

far_own : (game : Game) (me q : ℕ) (h : List Entry) (e : Entry) (f : TurnFrame) → IsOwn e → (q == me) ≡ false → is_far game me (h ++ e ∷ []) q f ≡ is_far game me h q f
unfolding is_far
far_own game me q h e f o n = ap (λ (next : ℕ). is_beyond game next f) (ap places_in (known_own game me q h e o n))

same_own : (q : ℕ) (h : List Entry) (e : Entry) (f : TurnFrame) → IsOwn e → is_same (h ++ e ∷ []) q f ≡ is_same h q f
unfolding is_same
same_own q h e f o = list_any-append (entry_eq (Got q f)) h (e ∷ []) ∙ none e o
  where
    or_no : (b : Bool) → (b || false) ≡ b
    or_no true = refl
    or_no false = refl

    none : (d : Entry) → IsOwn d → (list_any (entry_eq (Got q f)) h || list_any (entry_eq (Got q f)) (d ∷ [])) ≡ list_any (entry_eq (Got q f)) h
    none (Chose t m n) o = or_no (list_any (entry_eq (Got q f)) h)
    none (Made g) o = or_no (list_any (entry_eq (Got q f)) h)
    none (Got p g) o = absurd o

-- what is new stays so, by who the frame's player is
new_own : (game : Game) (me : ℕ) (h : List Entry) (e : Entry) (a : Arrival) → IsOwn e → is_new_to game me (h ++ e ∷ []) a ≡ is_new_to game me h a
new_own game me h e a o =
    ap (λ (b : Bool). (b && is_of_another game me a.player a.frame) && is_new game me (h ++ e ∷ []) a.player a.frame) (clean_own game h e o)
    ∙ go (a.player == me) refl
  where
    c : Bool
    c = is_clean game h

    lt : Bool
    lt = nat_lt a.player (players_of game)

    p : Bool
    p = player_of a.frame == a.player

    off : (x y z w : Bool) → ((x && ((y && false) && z)) && w) ≡ false
    off true true z w = refl
    off true false z w = refl
    off false y z w = refl

    go : (b : Bool) → (a.player == me) ≡ b →
        ((c && ((lt && not (a.player == me)) && p)) && is_new game me (h ++ e ∷ []) a.player a.frame) ≡ ((c && ((lt && not (a.player == me)) && p)) && is_new game me h a.player a.frame)
    go true is =
        ap (λ (b : Bool). (c && ((lt && not b) && p)) && is_new game me (h ++ e ∷ []) a.player a.frame) is
        ∙ off c lt p (is_new game me (h ++ e ∷ []) a.player a.frame)
        ∙ sym (off c lt p (is_new game me h a.player a.frame))
        ∙ sym (ap (λ (b : Bool). (c && ((lt && not b) && p)) && is_new game me h a.player a.frame) is)
    go false is =
        ap (λ (b : Bool). (c && ((lt && not (a.player == me)) && p)) && (not b && not (is_same (h ++ e ∷ []) a.player a.frame))) (far_own game me a.player h e a.frame o is)
        ∙ ap (λ (b : Bool). (c && ((lt && not (a.player == me)) && p)) && (not (is_far game me h a.player a.frame) && not b)) (same_own a.player h e a.frame o)

still_own : (game : Game) (me : ℕ) (h : List Entry) (e : Entry) (w : List Arrival) → IsOwn e → still_new game me (h ++ e ∷ []) w ≡ still_new game me h w
still_own game me h e [] o = refl
still_own game me h e (a ∷ more) o =
    ap (λ (b : Bool). if b then a ∷ more else still_new game me (h ++ e ∷ []) more) (new_own game me h e a o)
    ∙ ap (λ (x : List Arrival). if is_new_to game me h a then a ∷ more else x) (still_own game me h e more o)

-- ---- one frame more waits

if_take : {X : Type 0} (b : Bool) (x y : X) → b ≡ true → (if b then x else y) ≡ x
if_take b x y e = ap (λ (c : Bool). if c then x else y) e

if_drop : {X : Type 0} (b : Bool) (x y : X) → b ≡ false → (if b then x else y) ≡ y
if_drop b x y e = ap (λ (c : Bool). if c then x else y) e

-- after frames none of which is new
still_none : (game : Game) (me : ℕ) (h : List Entry) (w x : List Arrival) → still_new game me h w ≡ [] → still_new game me h (w ++ x) ≡ still_new game me h x
still_none game me h [] x e = refl
still_none game me h (a ∷ more) x e = go (is_new_to game me h a) refl (still_none game me h more x)
  where
    go : (b : Bool) → is_new_to game me h a ≡ b → (still_new game me h more ≡ [] → still_new game me h (more ++ x) ≡ still_new game me h x) →
        (if is_new_to game me h a then a ∷ (more ++ x) else still_new game me h (more ++ x)) ≡ still_new game me h x
    go true n ih = absurd (let z : a ∷ more ≡ [] = sym (if_take (is_new_to game me h a) (a ∷ more) (still_new game me h more) n) ∙ e in cc)
    go false n ih =
        if_drop (is_new_to game me h a) (a ∷ (more ++ x)) (still_new game me h (more ++ x)) n
        ∙ ih (sym (if_drop (is_new_to game me h a) (a ∷ more) (still_new game me h more) n) ∙ e)

-- after one that is
still_some : (game : Game) (me : ℕ) (h : List Entry) (w x : List Arrival) (a : Arrival) (rest : List Arrival) → still_new game me h w ≡ a ∷ rest → still_new game me h (w ++ x) ≡ a ∷ (rest ++ x)
still_some game me h [] x a rest e = absurd (cc)
still_some game me h (b ∷ more) x a rest e = go (is_new_to game me h b) refl (still_some game me h more x a rest)
  where
    go : (c : Bool) → is_new_to game me h b ≡ c → (still_new game me h more ≡ a ∷ rest → still_new game me h (more ++ x) ≡ a ∷ (rest ++ x)) →
        (if is_new_to game me h b then b ∷ (more ++ x) else still_new game me h (more ++ x)) ≡ a ∷ (rest ++ x)
    go true n ih =
        if_take (is_new_to game me h b) (b ∷ (more ++ x)) (still_new game me h (more ++ x)) n
        ∙ ap (λ (z : List Arrival). z ++ x) (sym (if_take (is_new_to game me h b) (b ∷ more) (still_new game me h more) n) ∙ e)
    go false n ih =
        if_drop (is_new_to game me h b) (b ∷ (more ++ x)) (still_new game me h (more ++ x)) n
        ∙ ih (sym (if_drop (is_new_to game me h b) (b ∷ more) (still_new game me h more) n) ∙ e)

-- what may be logged still may, and the frames that wait after it have the one more too
log_more : (game : Game) (me : ℕ) (h : List Entry) (w x : List Arrival) (e : Entry) → may_log game me h w e ≡ true →
    (may_log game me h (w ++ x) e ≡ true) × (waiting_after game me h (w ++ x) e ≡ waiting_after game me h w e ++ x)
log_more game me h w x (Chose t m n) l = (l, refl)
log_more game me h w x (Made f) l = (l, refl)
log_more game me h w x (Got q f) l = go (still_new game me h w) refl (and_parts _ _ l).1
  where
    go : (s : List Arrival) → still_new game me h w ≡ s → is_first (still_new game me h w) q f ≡ true →
        ((comes_next game me h (Got q f) && is_first (still_new game me h (w ++ x)) q f) ≡ true) × (drop 1 (still_new game me h (w ++ x)) ≡ drop 1 (still_new game me h w) ++ x)
    go [] is first = absurd (let z : false ≡ true = sym (ap (λ (s : List Arrival). is_first s q f) is) ∙ first in cc)
    go (a ∷ rest) is first =
        let some = still_some game me h w x a rest is in
        let one : is_first (a ∷ rest) q f ≡ true = sym (ap (λ (s : List Arrival). is_first s q f) is) ∙ first in (
          and_from _ _ (and_parts _ _ l).0 (ap (λ (s : List Arrival). is_first s q f) some ∙ one),
          ap (drop 1) some ∙ ap (λ (s : List Arrival). drop 1 s ++ x) (sym is),
        )

-- ---- own entries

own_log : (game : Game) (me : ℕ) (h : List Entry) (w : List Arrival) (e : Entry) → IsOwn e → comes_next game me h e ≡ true → (may_log game me h w e ≡ true) × (waiting_after game me h w e ≡ w)
own_log game me h w (Chose t m n) o c = (and_from _ _ c refl, refl)
own_log game me h w (Made f) o c = (and_from _ _ c refl, refl)
own_log game me h w (Got q f) o c = absurd o

own_handled : (game : Game) (me : ℕ) (h : List Entry) (w : List Arrival) (more : List Entry) → still_new game me h w ≡ [] → OwnRun game me h more → Explained game me h w more
own_handled game me h w [] n r = n
own_handled game me h w (e ∷ es) n r =
    let l = own_log game me h w e r.0 r.1 in
    (l.0, subst (λ (v : List Arrival). Explained game me (h ++ e ∷ []) v es) (sym l.1) (own_handled game me (h ++ e ∷ []) w es (still_own game me h e w r.0 ∙ n) r.2))

pub explains_own : (game : Game) (me : ℕ) (h : List Entry) (w : List Arrival) (es more : List Entry) → Explained game me h w es → OwnRun game me (h ++ es) more → Explained game me h w (es ++ more)
explains_own game me h w [] more x r = own_handled game me h w more x (subst (λ (g : List Entry). OwnRun game me g more) (append-nil h) r)
explains_own game me h w (e ∷ es) more x r =
    (x.0, explains_own game me (h ++ e ∷ []) (waiting_after game me h w e) es more x.1 (subst (λ (g : List Entry). OwnRun game me g more) (sym (append_assoc h (e ∷ []) es)) r))

-- ---- a frame that makes no entry

pub explains_old : (game : Game) (me : ℕ) (h : List Entry) (w : List Arrival) (a : Arrival) (es : List Entry) → Explained game me h w es → is_new_to game me (h ++ es) a ≡ false → Explained game me h (w ++ a ∷ []) es
explains_old game me h w a [] x old =
    still_none game me h w (a ∷ []) x ∙ if_drop (is_new_to game me h a) (a ∷ []) [] (ap (λ (g : List Entry). is_new_to game me g a) (sym (append-nil h)) ∙ old)
explains_old game me h w a (e ∷ es) x old =
    let l = log_more game me h w (a ∷ []) e x.0 in (
      l.0,
      subst (λ (v : List Arrival). Explained game me (h ++ e ∷ []) v es) (sym l.1)
          (explains_old game me (h ++ e ∷ []) (waiting_after game me h w e) a es x.1 (ap (λ (g : List Entry). is_new_to game me g a) (append_assoc h (e ∷ []) es) ∙ old)),
    )

-- ---- a frame that is new

pub entry_same : (q : ℕ) (f : TurnFrame) → entry_eq (Got q f) (Got q f) ≡ true
entry_same q f = and_from _ _ (eq-eqb q q refl) (frame_eq_same f)

new_allowed : (game : Game) (me : ℕ) (h : List Entry) (a : Arrival) → is_new_to game me h a ≡ true → allowed game me h (Got a.player a.frame) ≡ true
unfolding allows
new_allowed game me h a n =
    let both = and_parts (is_clean game h && is_of_another game me a.player a.frame) (is_new game me h a.player a.frame) n in
    let front = and_parts (is_clean game h) (is_of_another game me a.player a.frame) both.0 in
    and_from _ _ front.0 (and_from _ _ front.1 both.1)

new_logged : (game : Game) (me : ℕ) (h : List Entry) (w : List Arrival) (a : Arrival) → still_new game me h w ≡ [] → is_new_to game me h a ≡ true → next_made game me h ≡ None → may_choose game me h ≡ false →
    Explained game me h (w ++ a ∷ []) (Got a.player a.frame ∷ [])
new_logged game me h w a n new none chosen =
    let some : still_new game me h (w ++ a ∷ []) ≡ a ∷ [] = still_none game me h w (a ∷ []) n ∙ if_take (is_new_to game me h a) (a ∷ []) [] new in (
      and_from _ _
          (and_from _ _ (new_allowed game me h a new) (and_from _ _ (ap (λ (o : Option TurnFrame). is_none o) none) (ap not chosen)))
          (ap (λ (s : List Arrival). is_first s a.player a.frame) some ∙ entry_same a.player a.frame),
      ap (λ (s : List Arrival). still_new game me (h ++ Got a.player a.frame ∷ []) (drop 1 s)) some,
    )

pub explains_new : (game : Game) (me : ℕ) (h : List Entry) (w : List Arrival) (a : Arrival) (es : List Entry) → Explained game me h w es → is_new_to game me (h ++ es) a ≡ true → next_made game me (h ++ es) ≡ None →
    may_choose game me (h ++ es) ≡ false → Explained game me h (w ++ a ∷ []) (es ++ Got a.player a.frame ∷ [])
explains_new game me h w a [] x new none chosen =
    new_logged game me h w a x (ap (λ (g : List Entry). is_new_to game me g a) (sym (append-nil h)) ∙ new) (ap (next_made game me) (sym (append-nil h)) ∙ none) (ap (may_choose game me) (sym (append-nil h)) ∙ chosen)
explains_new game me h w a (e ∷ es) x new none chosen =
    let l = log_more game me h w (a ∷ []) e x.0 in
    let at : (h ++ e ∷ []) ++ es ≡ h ++ e ∷ es = append_assoc h (e ∷ []) es in (
      l.0,
      subst (λ (v : List Arrival). Explained game me (h ++ e ∷ []) v (es ++ Got a.player a.frame ∷ [])) (sym l.1)
          (explains_new game me (h ++ e ∷ []) (waiting_after game me h w e) a es x.1 (ap (λ (g : List Entry). is_new_to game me g a) at ∙ new) (ap (next_made game me) at ∙ none) (ap (may_choose game me) at ∙ chosen)),
    )
