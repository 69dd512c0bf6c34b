-- Replaying: which entries may come next, by what a peer answers, and what follows of the first that may not.
use Rattle.std.proofs.Common.{◌≡◌, ℕ, ◌+◌, ◌<◌, ◌≤◌, Bool, true, false, List, [], ◌∷◌, ◌++◌, refl, sym, ◌∙◌, ap, subst, arith, length, take, drop, append_assoc, append-nil, get_or, add-one, drop-cons, ◌^◌}
use Rattle.std.specs.Prelude.{Option, Some, None, is_none, not, nat_lt, ◌&&◌, ◌==◌, if◌then◌else◌}
use Rattle.std.proofs.lemmas.Bool.{and_parts, ne_eqb, false≢true}
use Rattle.std.proofs.lemmas.List.{take-append-drop, take_all, take_more, length-take-le}
use Rattle.definitions.specs.declared.world.Move.{Move}
use Rattle.definitions.specs.declared.world.MoveFault.{MoveFault}
use Rattle.definitions.specs.declared.openings.Nonce.{Nonce}
use Rattle.definitions.specs.declared.frames.TurnFrame.{TurnFrame}
use Rattle.definitions.specs.declared.logs.Entry.{Entry}
use Rattle.definitions.specs.declared.logs.Entry.TheVariants.{Chose, Made, Got}
use Rattle.definitions.specs.declared.answers.OwnFault.TheVariants.{NotNow}
use Rattle.definitions.specs.World.{Game, players_of}
use Rattle.definitions.specs.Places.{commit_place}
use Rattle.definitions.specs.Moves.{is_legal, move_fault}
use Rattle.definitions.specs.Logs.{chosen, frame_eq}
use Rattle.definitions.specs.Findings.{is_clean}
use Rattle.definitions.specs.Answers.{is_new, is_of_another}
use Rattle.definitions.specs.Honest.{IsHonest, honest_from, allowed, allows, allows_choice, chosen_track, made_count, may_commit}
use Rattle.definitions.specs.Needs.{choice_fault, may_choose, own_fault}
use Rattle.definitions.specs.Advance.{next_made}
use Rattle.definitions.specs.Steps.{is_taken_in}
use Rattle.definition_laws.proofs.Advances.{next_made_allowed}
use Rattle.definition_laws.proofs.Alike.{frame_eq_same, frame_eq_true}
use Rattle.definition_laws.proofs.ForPeers.{honest_last, next_made_only}
use Rattle.definition_laws.proofs.Waits.{may_choose_allowed}
use Rattle.definition_laws.proofs.Room.{logs_fit, room_small}
use Rattle.grid_world.specs.Sessions.{IsSession}
use Rattle.grid_world.proofs.Reveals.{ahead_least}
use Rattle.peer_core.specs.Views.{PeerState}
use Rattle.peer_core.specs.Resuming.{first_not_replayed, with_allowed, HasReplayed, IsFirstBreach}

-- what is allowed is added, and nothing else
pub added_if : (game : Game) (me : ℕ) (h : List Entry) (e : Entry) (may : Bool) → allowed game me h e ≡ may → (if may then h ++ e ∷ [] else h) ≡ with_allowed game me h e
added_if game me h e may is = let P : Bool → List Entry = λ b. if b then (h ++ e ∷ []) else h in ap P (sym is)

-- ---- choices

-- a choice of another turn than the next may not come
pub other_turn : (game : Game) (me t : ℕ) (h : List Entry) (m : Move) (n : Nonce) → (t ≡ length (chosen me h) → ⊥) → allowed game me h (Chose t m n) ≡ false
unfolding allows allows_choice
other_turn game me t h m n differs =
    let test : (length (chosen me h) == t) ≡ false = ne_eqb (length (chosen me h)) t (λ e. differs (sym e)) in
    go (is_clean game h) (length (chosen me h) == t) (nat_lt t game.turns) (made_count h == commit_place game t) (is_legal game me (chosen_track game me h) m) (may_commit game me h t) test
  where
    go : (c a b d e f : Bool) → a ≡ false → (c && (a && b && d && e && f)) ≡ false
    go c a b d e f k = grind (arith, k)

-- a choice of the next turn may come exactly where the player's own choice of it isn't refused
pub this_turn : (game : Game) (me : ℕ) (h : List Entry) (m : Move) (n : Nonce) → 1 ≤ game.ahead → IsHonest game me h →
    allowed game me h (Chose (length (chosen me h)) m n) ≡ is_none (choice_fault game me h m)
unfolding choice_fault is_legal allows allows_choice
this_turn game me h m n d i =
    go (may_choose game me h) (move_fault game me (chosen_track game me h) m) (allowed game me h (Chose (length (chosen me h)) m n)) (may_choose_allowed game me h m n d i)
    (illegal (is_clean game h) (length (chosen me h) == length (chosen me h)) (nat_lt (length (chosen me h)) game.turns) (made_count h == commit_place game (length (chosen me h)))
    (is_legal game me (chosen_track game me h) m) (may_commit game me h (length (chosen me h))))
  where
    illegal : (c a b d e f : Bool) → e ≡ false → (c && (a && b && d && e && f)) ≡ false
    illegal c a b d e f k = grind (arith, k)

    go : (may : Bool) (o : Option MoveFault) (al : Bool) → (is_none o ≡ true → al ≡ may) → (is_none o ≡ false → al ≡ false) → al ≡ is_none (if not may then Some NotNow else own_fault o)
    go true None al p q = p refl
    go false None al p q = p refl
    go true (Some x) al p q = q refl
    go false (Some x) al p q = q refl

-- ---- made frames

-- another frame than the next may not come
pub other_frame : (game : Game) (me : ℕ) (h : List Entry) (f g : TurnFrame) → 1 ≤ game.ahead → IsHonest game me h → next_made game me h ≡ Some g → frame_eq g f ≡ false → allowed game me h (Made f) ≡ false
other_frame game me h f g d i e differs = go (allowed game me h (Made f)) refl
  where
    same : (x y : TurnFrame) → Some x ≡ Some y → x ≡ y
    same x y k = cc

    go : (b : Bool) → allowed game me h (Made f) ≡ b → b ≡ false
    go false k = refl
    go true k =
        let is : g ≡ f = same g f (sym e ∙ next_made_only game me h f d i k) in
        absurd (false≢true (sym differs ∙ ap (frame_eq g) (sym is) ∙ frame_eq_same g))

-- the next frame may come
pub this_frame : (game : Game) (me : ℕ) (h : List Entry) (f g : TurnFrame) → next_made game me h ≡ Some g → frame_eq g f ≡ true → allowed game me h (Made f) ≡ true
this_frame game me h f g e same =
    let is = frame_eq_true g f same in
    ap (λ (x : TurnFrame). allowed game me h (Made x)) (sym is) ∙ next_made_allowed game me h g e

-- ---- frames that come

-- a frame may come exactly where it is taken in
pub got_allowed : (game : Game) (me q : ℕ) (h : List Entry) (f : TurnFrame) → is_taken_in game me h q f ≡ allowed game me h (Got q f)
unfolding allows
got_allowed game me q h f = go (is_clean game h) (is_of_another game me q f) (is_new game me h q f)
  where
    go : (a b c : Bool) → (a && b && c) ≡ (a && (b && c))
    go true true c = refl
    go true false c = refl
    go false b c = refl

-- ---- all entries

-- the entries of an honest log may all follow
pub all_replayed : (game : Game) (me : ℕ) (g es : List Entry) → honest_from game me g es ≡ true → first_not_replayed game me g es ≡ None
unfolding honest_from
all_replayed game me g [] i = refl
all_replayed game me g (e ∷ es) i =
    let both = and_parts _ _ i in
    let P : Bool → Option ℕ = λ b. if b then first_not_replayed game me (g ++ e ∷ []) es else Some (length g) in
    ap P both.0 ∙ all_replayed game me (g ++ e ∷ []) es both.1

-- behind honest entries, one that may not follow is the first such
pub not_replayed : (game : Game) (me : ℕ) (g xs ys : List Entry) (e : Entry) → honest_from game me g xs ≡ true → allowed game me (g ++ xs) e ≡ false →
    first_not_replayed game me g (xs ++ e ∷ ys) ≡ Some (length (g ++ xs))
unfolding honest_from
not_replayed game me g [] ys e i t =
    let P : Bool → Option ℕ = λ b. if b then first_not_replayed game me (g ++ e ∷ []) ys else Some (length g) in
    let all : g ++ [] ≡ g = append-nil g in
    let Count : List Entry → Option ℕ = λ h. Some (length h) in
    ap P (ap (λ (h : List Entry). allowed game me h e) (sym all) ∙ t) ∙ ap Count (sym all)
not_replayed game me g (x ∷ xs) ys e i t =
    let both = and_parts _ _ i in
    let P : Bool → Option ℕ = λ b. if b then first_not_replayed game me (g ++ x ∷ []) (xs ++ e ∷ ys) else Some (length g) in
    let same : (g ++ x ∷ []) ++ xs ≡ g ++ x ∷ xs = append_assoc g (x ∷ []) xs in
    let Count : List Entry → Option ℕ = λ h. Some (length h) in
    ap P both.0 ∙ not_replayed game me (g ++ x ∷ []) xs ys e both.1 (ap (λ (h : List Entry). allowed game me h e) same ∙ t) ∙ ap Count same

-- the entries of a list around the one at a place
around : (es : List Entry) (i : ℕ) (d : Entry) → i < length es → take i es ++ get_or es i d ∷ drop (i + 1) es ≡ es
around es i d lt = ap (λ xs. take i es ++ xs) (sym (drop_here es i d lt)) ∙ take-append-drop i es
  where
    drop_here : (es : List Entry) (i : ℕ) (d : Entry) → i < length es → drop i es ≡ get_or es i d ∷ drop (i + 1) es
    drop_here es i d lt = rw (add-one, drop-cons es i d) refl

pub breach_is : (game : Game) (me i : ℕ) (es : List Entry) (d : Entry) → i < length es → IsHonest game me (take i es) → allowed game me (take i es) (get_or es i d) ≡ false →
    first_not_replayed game me [] es ≡ Some i
breach_is game me i es d lt honest t =
    let Place : ℕ → Option ℕ = λ k. Some k in
    ap (first_not_replayed game me []) (sym (around es i d lt)) ∙ not_replayed game me [] (take i es) (drop (i + 1) es) (get_or es i d) honest t ∙ ap Place (length-take-le i es (omega arith))

-- an honest log with an entry that may not follow isn't honest
pub breach_first : (game : Game) (me i : ℕ) (es : List Entry) (d : Entry) → i < length es → IsHonest game me (take i es) → allowed game me (take i es) (get_or es i d) ≡ false →
    IsFirstBreach game me es i
breach_first game me i es d lt honest t = record {
  within = lt;
  before = honest;
  breach = λ h. let Is : List Entry → Type 0 = λ l. IsHonest game me l in
      false≢true (sym t ∙ (honest_last game me (take i es) (get_or es i d) (subst Is (take_more es i d lt) h)).1);
}

-- the number of honest entries is small
pub few_replayed : (game : Game) (me i : ℕ) (es : List Entry) → IsSession game → me < players_of game → i ≤ length es → IsHonest game me (take i es) → i < 2 ^ 32
few_replayed game me i es is my le honest =
    let few = logs_fit game me (take i es) (ahead_least game is) my honest in
    let turns = is.turns in
    let small = room_small game turns.1 is.turns_of_all in
    let count = length-take-le i es le in
    omega arith

-- the entry that a peer with this log doesn't replay may not follow it
pub refused_at : (game : Game) (me : ℕ) (h : List Entry) (p : PeerState) (e : Entry) (b : Bool) → p ≡ record { game = game; me = me; entries = h } → b ≡ allowed p.game p.me p.entries e → b ≡ false →
    allowed game me h e ≡ false
refused_at game me h p e b is told fails = let May : PeerState → Bool = λ q. allowed q.game q.me q.entries e in ap May (sym is) ∙ sym told ∙ fails

-- a peer with all of these entries
pub has_replayed : (game : Game) (me i : ℕ) (es : List Entry) (p : PeerState) → i ≤ length es → length es ≤ i → p ≡ record { game = game; me = me; entries = take i es } → IsHonest game me (take i es) → HasReplayed game me es p
has_replayed game me i es p le ge is honest =
    let all : take i es ≡ es = take_all i es ge in
    let with_log : List Entry → PeerState = λ h. record { game = game; me = me; entries = h } in
    let Is : List Entry → Type 0 = λ h. IsHonest game me h in
    record { log = is ∙ ap with_log all; none = all_replayed game me [] es (subst Is all honest) }
