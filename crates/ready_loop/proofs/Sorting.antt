-- Sorting: what the frames that wait come to, where something else of a view changes.
use Rattle.std.proofs.Common.{◌≡◌, ℕ, ◌*◌, Bool, true, false, refl, sym, ap, ◌∙◌, List, [], ◌∷◌, ◌++◌}
use Rattle.std.specs.Prelude.{not, nat_lt, ◌&&◌, ◌||◌, ◌==◌, if◌then◌else◌}
use Rattle.std.specs.List.{list_any}
use Rattle.std.proofs.lemmas.Bool.{and_parts}
use Rattle.std.proofs.lemmas.List.Folds.{list_any-append}
use Rattle.definitions.specs.Lists.{EachIs, is_empty}
use Rattle.definitions.specs.declared.frames.TurnFrame.{TurnFrame}
use Rattle.definitions.specs.declared.logs.Entry.{Entry}
use Rattle.definitions.specs.declared.logs.Entry.TheVariants.{Chose, Made, Got}
use Rattle.definitions.specs.declared.findings.Finding.{Finding}
use Rattle.definitions.specs.World.{Game, players_of}
use Rattle.definitions.specs.Logs.{made, got_of, entry_eq, player_of}
use Rattle.definitions.specs.Held.{known, known_to, next_place, places_in}
use Rattle.definitions.specs.Findings.{is_clean}
use Rattle.definitions.specs.Answers.{is_beyond, is_far, is_same}
use Rattle.definition_laws.proofs.Silent.{findings_made, findings_chose, got_push}
use Rattle.session_log.specs.Writing as W
use Rattle.socket_lines.specs.Seats.{asks}
use Rattle.peer_rules.specs.declared.arrivals.Arrival.{Arrival}
use Rattle.peer_rules.specs.declared.phases.Phase.{Phase}
use Rattle.loop_rules.specs.Tables.{at_seat}
use Rattle.loop_rules.specs.Views.{View}
use Rattle.loop_rules.specs.Handling.{next_of, with_waiting, passed, is_new_to, sorted, IsOfOther}
use Rattle.loop_rules.specs.After.{in_phase}
use Rattle.ready_loop.proofs.Tests.{not_of}

-- ---- a change that says the same of the frames that wait

-- what is said of the frames that wait is said behind the change too
pub record Commutes (game : Game) (me : ℕ) (F : View → View) : Type 0 where
  pub clean : (v : View) → v.setting.game ≡ game → is_clean (F v).setting.game (F v).kept ≡ is_clean v.setting.game v.kept
  pub new : (v : View) (a : Arrival) → v.setting.game ≡ game → v.setting.me ≡ me → IsOfOther game me a → is_new_to (F v) a ≡ is_new_to v a
  pub passes : (v : View) (a : Arrival) → v.setting.game ≡ game → v.setting.me ≡ me → IsOfOther game me a → passed (F v) a ≡ F (passed v a)
  pub waits : (v : View) (ws : List Arrival) → with_waiting ws (F v) ≡ F (with_waiting ws v)

pub passed_game : (v : View) (a : Arrival) → (passed v a).setting ≡ v.setting
passed_game v a = go (is_far v.setting.game v.setting.me v.kept a.player a.frame)
  where
    go : (b : Bool) → (if b then record v { table = at_seat a.player (asks (next_of v a.player)) v.table } else v).setting ≡ v.setting
    go true = refl
    go false = refl

if_of : {X Y : Type 0} (f : X → Y) (b : Bool) (x y : X) → (if b then f x else f y) ≡ f (if b then x else y)
if_of f true x y = refl
if_of f false x y = refl

pub sorted_commutes : (game : Game) (me : ℕ) (F : View → View) (rest : List Arrival) (v : View) → Commutes game me F → v.setting.game ≡ game → v.setting.me ≡ me → EachIs (IsOfOther game me) rest →
    sorted rest (F v) ≡ F (sorted rest v)
sorted_commutes game me F [] v c g m each = c.waits v []
sorted_commutes game me F (a ∷ more) v c g m each =
    let ih : sorted more (passed (F v) a) ≡ F (sorted more (passed v a)) =
    ap (sorted more) (c.passes v a g m each.0)
    ∙ sorted_commutes game me F more (passed v a) c (ap (λ s. s.game) (passed_game v a) ∙ g) (ap (λ s. s.me) (passed_game v a) ∙ m) each.1 in
    let rest_of : View = if is_new_to v a then with_waiting (a ∷ more) v else sorted more (passed v a) in
    let inner : (if is_new_to (F v) a then with_waiting (a ∷ more) (F v) else sorted more (passed (F v) a)) ≡ F rest_of =
    ap (λ (b : Bool). if b then with_waiting (a ∷ more) (F v) else sorted more (passed (F v) a)) (c.new v a g m each.0)
    ∙ ap (λ (x : View). if is_new_to v a then x else sorted more (passed (F v) a)) (c.waits v (a ∷ more))
    ∙ ap (λ (x : View). if is_new_to v a then F (with_waiting (a ∷ more) v) else x) ih
    ∙ if_of F (is_new_to v a) (with_waiting (a ∷ more) v) (sorted more (passed v a)) in
    ap (λ (b : Bool). if not b then with_waiting [] (F v) else (if is_new_to (F v) a then with_waiting (a ∷ more) (F v) else sorted more (passed (F v) a))) (c.clean v g)
    ∙ ap (λ (x : View). if not (is_clean v.setting.game v.kept) then x else (if is_new_to (F v) a then with_waiting (a ∷ more) (F v) else sorted more (passed (F v) a))) (c.waits v [])
    ∙ ap (λ (x : View). if not (is_clean v.setting.game v.kept) then F (with_waiting [] v) else x) inner
    ∙ if_of F (not (is_clean v.setting.game v.kept)) (with_waiting [] v) rest_of

-- ---- which frames wait before doesn't count

passed_waits : (a : Arrival) (ws : List Arrival) (v : View) → passed (with_waiting ws v) a ≡ with_waiting ws (passed v a)
passed_waits a ws v = go (is_far v.setting.game v.setting.me v.kept a.player a.frame)
  where
    go : (b : Bool) → (if b then record (with_waiting ws v) { table = at_seat a.player (asks (next_of v a.player)) (with_waiting ws v).table } else with_waiting ws v) ≡
        with_waiting ws (if b then record v { table = at_seat a.player (asks (next_of v a.player)) v.table } else v)
    go true = refl
    go false = refl

pub sorted_any : (rest ws : List Arrival) (v : View) → sorted rest (with_waiting ws v) ≡ sorted rest v
sorted_any [] ws v = refl
sorted_any (a ∷ more) ws v =
    ap (λ (x : View). if not (is_clean v.setting.game v.kept) then with_waiting [] v else (if is_new_to v a then with_waiting (a ∷ more) v else x))
    (ap (sorted more) (passed_waits a ws v) ∙ sorted_any more ws (passed v a))

-- ---- what was sorted is so

pub sorted_first : (a : Arrival) (more : List Arrival) (v : View) (b : Bool) → is_clean v.setting.game v.kept ≡ true → is_new_to v a ≡ b → sorted (a ∷ more) v ≡ (if b then with_waiting (a ∷ more) v else sorted more (passed v a))
sorted_first a more v b c n =
    ap (λ (d : Bool). if not d then with_waiting [] v else (if is_new_to v a then with_waiting (a ∷ more) v else sorted more (passed v a))) c
    ∙ ap (λ (d : Bool). if d then with_waiting (a ∷ more) v else sorted more (passed v a)) n

pub sorted_unclean : (rest : List Arrival) (v : View) → is_clean v.setting.game v.kept ≡ false → sorted rest v ≡ with_waiting [] v
sorted_unclean [] v c = refl
sorted_unclean (a ∷ more) v c = ap (λ (b : Bool). if not b then with_waiting [] v else (if is_new_to v a then with_waiting (a ∷ more) v else sorted more (passed v a))) c

pub sorted_twice : (rest : List Arrival) (v : View) → sorted (sorted rest v).table.waiting (sorted rest v) ≡ sorted rest v
sorted_twice [] v = refl
sorted_twice (a ∷ more) v = clean (is_clean v.setting.game v.kept) refl (sorted_twice more (passed v a))
  where
    Twice : View → Type 0
    Twice w = sorted w.table.waiting w ≡ w

    new : (b : Bool) → is_new_to v a ≡ b → is_clean v.setting.game v.kept ≡ true → Twice (sorted more (passed v a)) → Twice (if b then with_waiting (a ∷ more) v else sorted more (passed v a))
    new true n c ih = sorted_first a more (with_waiting (a ∷ more) v) true c n
    new false n c ih = ih

    clean : (b : Bool) → is_clean v.setting.game v.kept ≡ b → Twice (sorted more (passed v a)) → Twice (if not b then with_waiting [] v else (if is_new_to v a then with_waiting (a ∷ more) v else sorted more (passed v a)))
    clean true c ih = new (is_new_to v a) refl c ih
    clean false c ih = refl

-- ---- the phase

phase_commutes : (game : Game) (me : ℕ) (p : Phase) → Commutes game me (in_phase p)
phase_commutes game me p = record {
  clean = λ v g. refl;
  new = λ v a g m o. refl;
  passes = λ v a g m o. go v a (is_far v.setting.game v.setting.me v.kept a.player a.frame);
  waits = λ v ws. refl;
}
  where
    go : (v : View) (a : Arrival) (b : Bool) → (if b then record (in_phase p v) { table = at_seat a.player (asks (next_of v a.player)) v.table } else in_phase p v) ≡
        in_phase p (if b then record v { table = at_seat a.player (asks (next_of v a.player)) v.table } else v)
    go v a true = refl
    go v a false = refl

pub sorted_phase : (game : Game) (me : ℕ) (p : Phase) (rest : List Arrival) (v : View) → v.setting.game ≡ game → v.setting.me ≡ me → EachIs (IsOfOther game me) rest → sorted rest (in_phase p v) ≡ in_phase p (sorted rest v)
sorted_phase game me p rest v g m each = sorted_commutes game me (in_phase p) rest v (phase_commutes game me p) g m each

-- ---- an own entry

-- the view with an entry more
abbrev pub more_kept : Entry → View → View
more_kept e v = record v { kept = v.kept ++ e ∷ []; writer = W.after v.writer e }

-- a choice or a made frame
abbrev pub IsOwn : Entry → Type 0
IsOwn (Chose t m n) = Unit {0}
IsOwn (Made f) = Unit {0}
IsOwn (Got q f) = ⊥

clean_own : (game : Game) (h : List Entry) (e : Entry) → IsOwn e → is_clean game (h ++ e ∷ []) ≡ is_clean game h
unfolding is_clean
clean_own game h (Chose t m n) o = ap (is_empty {X = Finding}) (findings_chose game h t m n)
clean_own game h (Made f) o = ap (is_empty {X = Finding}) (findings_made game h f)
clean_own game h (Got q f) o = absurd o

got_own : (q : ℕ) (h : List Entry) (e : Entry) → IsOwn e → got_of q (h ++ e ∷ []) ≡ got_of q h
got_own q h (Chose t m n) o = got_push q h (Chose t m n) refl
got_own q h (Made f) o = got_push q h (Made f) refl
got_own q h (Got p f) o = absurd o

known_own : (game : Game) (me q : ℕ) (h : List Entry) (e : Entry) → IsOwn e → (q == me) ≡ false → known game me (h ++ e ∷ []) q ≡ known game me h q
unfolding known
known_own game me q h e o n =
    ap (λ (b : Bool). known_to game q (if b then made (h ++ e ∷ []) else got_of q (h ++ e ∷ [])) (2 * game.turns)) n
    ∙ ap (λ (fs : List TurnFrame). known_to game q fs (2 * game.turns)) (got_own q h e o)
    ∙ sym (ap (λ (b : Bool). known_to game q (if b then made h else got_of q h) (2 * game.turns)) n)

next_own : (game : Game) (me q : ℕ) (h : List Entry) (e : Entry) → IsOwn e → (q == me) ≡ false → next_place game me (h ++ e ∷ []) q ≡ next_place game me h q
next_own game me q h e o n = ap places_in (known_own game me q h e o n)

far_own : (game : Game) (me q : ℕ) (h : List Entry) (e : Entry) (f : TurnFrame) → IsOwn e → (q == me) ≡ false → is_far game me (h ++ e ∷ []) q f ≡ is_far game me h q f
unfolding is_far
far_own game me q h e f o n = ap (λ (next : ℕ). is_beyond game next f) (next_own game me q h e o n)

same_own : (q : ℕ) (h : List Entry) (e : Entry) (f : TurnFrame) → IsOwn e → is_same (h ++ e ∷ []) q f ≡ is_same h q f
unfolding is_same
same_own q h e f o = list_any-append (entry_eq (Got q f)) h (e ∷ []) ∙ none e o
  where
    or_no : (b : Bool) → (b || false) ≡ b
    or_no true = refl
    or_no false = refl

    none : (d : Entry) → IsOwn d → (list_any (entry_eq (Got q f)) h || list_any (entry_eq (Got q f)) (d ∷ [])) ≡ list_any (entry_eq (Got q f)) h
    none (Chose t m n) o = or_no (list_any (entry_eq (Got q f)) h)
    none (Made g) o = or_no (list_any (entry_eq (Got q f)) h)
    none (Got p g) o = absurd o

-- another player than me
pub other_player : (game : Game) (me : ℕ) (a : Arrival) → IsOfOther game me a → (a.player == me) ≡ false
other_player game me a o =
    let both = and_parts (nat_lt a.player (players_of game) && not (a.player == me)) (player_of a.frame == a.player) o in
    not_of (a.player == me) (and_parts (nat_lt a.player (players_of game)) (not (a.player == me)) both.0).1

own_commutes : (game : Game) (me : ℕ) (e : Entry) → IsOwn e → Commutes game me (more_kept e)
own_commutes game me e o = record {
  clean = λ v g. clean_own v.setting.game v.kept e o;
  new = λ v a g m of. let n = other v a m of in
      ap (λ (b : Bool). not b && not (is_same (v.kept ++ e ∷ []) a.player a.frame)) (far_own v.setting.game v.setting.me a.player v.kept e a.frame o n)
      ∙ ap (λ (b : Bool). not (is_far v.setting.game v.setting.me v.kept a.player a.frame) && not b) (same_own a.player v.kept e a.frame o);
  passes = λ v a g m of. let n = other v a m of in
      ap (λ (b : Bool). if b then asked (more_kept e v) (next_of (more_kept e v) a.player) a.player else more_kept e v) (far_own v.setting.game v.setting.me a.player v.kept e a.frame o n)
      ∙ ap (λ (next : ℕ). if is_far v.setting.game v.setting.me v.kept a.player a.frame then asked (more_kept e v) next a.player else more_kept e v) (next_own v.setting.game v.setting.me a.player v.kept e o n)
      ∙ if_of (more_kept e) (is_far v.setting.game v.setting.me v.kept a.player a.frame) (asked v (next_of v a.player) a.player) v;
  waits = λ v ws. refl;
}
  where
    asked : View → (next q : ℕ) → View
    asked v next q = record v { table = at_seat q (asks next) v.table }

    other : (v : View) (a : Arrival) → v.setting.me ≡ me → IsOfOther game me a → (a.player == v.setting.me) ≡ false
    other v a m of = ap (λ (p : ℕ). a.player == p) m ∙ other_player game me a of

pub sorted_own : (game : Game) (me : ℕ) (e : Entry) (rest : List Arrival) (v : View) → IsOwn e → v.setting.game ≡ game → v.setting.me ≡ me → EachIs (IsOfOther game me) rest →
    sorted rest (more_kept e v) ≡ more_kept e (sorted rest v)
sorted_own game me e rest v o g m each = sorted_commutes game me (more_kept e) rest v (own_commutes game me e o) g m each
