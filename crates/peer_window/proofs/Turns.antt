-- Turns: the first clash of a turn, by its two slots and by the reveal of the first turn that isn't resolved.
use Rattle.std.proofs.Common.{◌≡◌, ℕ, ◌+◌, ◌*◌, ◌<◌, ◌≤◌, List, [], ◌∷◌, refl, Bool, true, false, sym, ◌∙◌, ap, arith, inl, inr, Option, Some, None}
use Rattle.std.specs.Prelude.{not, ◌&&◌, ◌||◌, ◌==◌, if◌then◌else◌, max, min, nat_lt}
use Rattle.std.specs.Option.{option_or}
use Rattle.std.proofs.lemmas.Bool.{cases_lt, eq-eqb, eqb-true, false≢true, ltb-false, ltb-true}
use Rattle.definitions.specs.declared.findings.Kind.{Kind}
use Rattle.definitions.specs.declared.findings.Kind.TheVariants.{TwoCommits, BadOpening, Collision, Illegal}
use Rattle.definitions.specs.declared.world.Move.{Move}
use Rattle.definitions.specs.declared.world.Track.{Track}
use Rattle.definitions.specs.declared.openings.Digest.{Digest}
use Rattle.definitions.specs.declared.openings.Nonce.{Nonce}
use Rattle.definitions.specs.declared.frames.TurnFrame.{TurnFrame}
use Rattle.definitions.specs.declared.frames.TurnFrame.TheVariants.{Commit, Reveal}
use Rattle.definitions.specs.World.{Game}
use Rattle.definitions.specs.Logs.{player_of, turn_of}
use Rattle.definitions.specs.Lists.{first_of}
use Rattle.definitions.specs.Held.{Known, digest_of}
use Rattle.definitions.specs.Findings.{is_commit, is_illegal_at, kinds}
use Rattle.grid_world.specs.Sessions.{IsSession}
use Rattle.peer_window.specs.declared.received.Received.{Received}
use Rattle.definitions.specs.declared.findings.Finding.{Finding}
use Rattle.grid_world.specs.declared.streams.Stream.{Stream}
use Rattle.peer_window.specs.Clashes.{clash_among, clash_in, finding_by, illegal_clash, is_first, of_turn, same_digest}
use Rattle.peer_window.specs.Steps.{frame_step, illegal_at, illegal_in, slot_step}
use Rattle.peer_window.specs.Slots.{in_order, shown, slot}
use Rattle.peer_window.specs.Windows.{IsHeld}
use Rattle.peer_window.proofs.OfTurns.{turn_slots}
use Rattle.peer_window.proofs.Pairs.{among_none, among_one, among_two, digest_sym, kinds_are}
use Rattle.peer_window.proofs.Judging.{illegal_here, later_unjudged, resolved_legal}
use Rattle.peer_window.proofs.Halted.{held_here, held_reach}
use Rattle.peer_window.proofs.Stretches.{is_commitment}
use Rattle.peer_window.proofs.Stretches as S

-- what the frames of a turn's two slots show by their digests
abbrev pub pair_clash : Game → ℕ → ℕ → Option Received → Option Received → Option Finding
pair_clash game q t None o = None
pair_clash game q t (Some c) None = None
pair_clash game q t (Some c) (Some g) =
    if same_digest game c g then None else Some (finding_by q t BadOpening (min c.entry g.entry) (max c.entry g.entry))

-- what the reveal of the first turn that isn't resolved shows of the turn, if it is that turn
abbrev pub end_clash : ℕ → ℕ → Option Finding → Option Finding
end_clash t n x = if t == n then x else None

pub clash_same : (q p t u : ℕ) (kind : Kind) (a b c d : ℕ) → q ≡ p → t ≡ u → a ≡ c → b ≡ d → finding_by q t kind a b ≡ finding_by p u kind c d
clash_same q p t u kind a b c d e f g h = ap (λ x. finding_by x t kind a b) e ∙ ap (λ x. finding_by p x kind a b) f ∙ ap (λ x. finding_by p u kind x b) g ∙ ap (finding_by p u kind c) h

when : (a s : Bool) → a ≡ true → (a && not s) ≡ not s
when true s h = refl
when false s h = absurd (false≢true h)

never : (a : Bool) → (a && false) ≡ false
never true = refl
never false = refl

or_false : (a : Bool) → (a || false) ≡ a
or_false true = refl
or_false false = refl

-- a commitment is never illegal
commit_legal : (game : Game) (q t : ℕ) (k : Known) (f : TurnFrame) (p u : ℕ) (d : Digest) → f ≡ Commit p u d → is_illegal_at game q t k f ≡ false
commit_legal game q t k f p u d e = ap (is_illegal_at game q t k) e ∙ never _

first_here : (c : Received) (rs : List Received) (p u : ℕ) (d : Digest) → c.frame ≡ Commit p u d → is_first (c ∷ rs) c ≡ true
first_here c rs p u d e = ap (λ (f : TurnFrame). if is_commit f then c.entry == c.entry else is_first rs c) e ∙ eq-eqb c.entry c.entry refl

first_next : (g : Received) (a : Received) (rs : List Received) (p u : ℕ) (m : Move) (o : Nonce) → g.frame ≡ Reveal p u m o → is_first (g ∷ rs) a ≡ is_first rs a
first_next g a rs p u m o e = ap (λ (f : TurnFrame). if is_commit f then g.entry == a.entry else is_first rs a) e

-- the values of the four kinds, joined
joined : (bad ill : Option Finding) → option_or None (option_or bad (option_or None (option_or ill None))) ≡ option_or bad ill
joined None None = refl
joined None (Some x) = refl
joined (Some y) ill = refl

bad_if : (t x y : ℕ) (s : Bool) (a : Finding) → (if not s then Some a else None) ≡ (if s then None else Some a)
bad_if t x y true a = refl
bad_if t x y false a = refl

-- a commitment and then a reveal
first_then : (game : Game) (q t : ℕ) (k : Known) (c g : Received) (d : Digest) (m : Move) (o : Nonce) → c.frame ≡ Commit q t d → g.frame ≡ Reveal q t m o → c.entry < g.entry →
    first_of (clash_among game q t k (c ∷ g ∷ [])) kinds ≡ option_or (pair_clash game q t (Some c) (Some g)) (if is_illegal_at game q t k g.frame then Some (illegal_clash c g) else None)
first_then game q t k c g d m o e f lt =
    kinds_are (clash_among game q t k (c ∷ g ∷ [])) None (pair_clash game q t (Some c) (Some g)) None (if is_illegal_at game q t k g.frame then Some (illegal_clash c g) else None)
    (among_two game q t k c g TwoCommits false (rw (e, f) refl))
    (among_two game q t k c g BadOpening (not (same_digest game c g)) (when _ _ (rw (e, f) refl))
    ∙ ap (λ (x : Finding). if not (same_digest game c g) then Some x else None) (clash_same q q t t BadOpening c.entry g.entry (min c.entry g.entry) (max c.entry g.entry) refl refl (omega arith) (omega arith))
    ∙ bad_if t 0 0 (same_digest game c g) _)
    (among_two game q t k c g Collision false (rw e refl))
    (among_two game q t k c g Illegal (is_illegal_at game q t k g.frame)
    (ap (λ (b : Bool). (b && is_illegal_at game q t k g.frame) || (is_first (c ∷ g ∷ []) g && is_illegal_at game q t k c.frame)) (first_here c (g ∷ []) q t d e)
    ∙ ap (λ (b : Bool). is_illegal_at game q t k g.frame || (is_first (c ∷ g ∷ []) g && b)) (commit_legal game q t k c.frame q t d e)
    ∙ ap (λ (b : Bool). is_illegal_at game q t k g.frame || b) (never _) ∙ or_false _)
    ∙ ap (λ (x : Finding). if is_illegal_at game q t k g.frame then Some x else None) (clash_same q (player_of g.frame) t (turn_of g.frame) Illegal c.entry g.entry (min c.entry g.entry) (max c.entry g.entry) (sym (ap player_of f)) (sym (ap turn_of f)) (omega arith) (omega arith)))
    ∙ joined _ _

-- a reveal and then its commitment
then_first : (game : Game) (q t : ℕ) (k : Known) (c g : Received) (d : Digest) (m : Move) (o : Nonce) → c.frame ≡ Commit q t d → g.frame ≡ Reveal q t m o → g.entry ≤ c.entry →
    first_of (clash_among game q t k (g ∷ c ∷ [])) kinds ≡ option_or (pair_clash game q t (Some c) (Some g)) (if is_illegal_at game q t k g.frame then Some (illegal_clash c g) else None)
then_first game q t k c g d m o e f le =
    kinds_are (clash_among game q t k (g ∷ c ∷ [])) None (pair_clash game q t (Some c) (Some g)) None (if is_illegal_at game q t k g.frame then Some (illegal_clash c g) else None)
    (among_two game q t k g c TwoCommits false (rw f refl))
    (among_two game q t k g c BadOpening (not (same_digest game c g)) (when _ _ (rw f refl) ∙ ap not (digest_sym (digest_of game g.frame) (digest_of game c.frame)))
    ∙ ap (λ (x : Finding). if not (same_digest game c g) then Some x else None) (clash_same q q t t BadOpening g.entry c.entry (min c.entry g.entry) (max c.entry g.entry) refl refl (omega arith) (omega arith))
    ∙ bad_if t 0 0 (same_digest game c g) _)
    (among_two game q t k g c Collision false (rw (f, e) refl))
    (among_two game q t k g c Illegal (is_illegal_at game q t k g.frame)
    (ap (λ (b : Bool). (is_first (g ∷ c ∷ []) g && b) || (is_first (g ∷ c ∷ []) c && is_illegal_at game q t k g.frame)) (commit_legal game q t k c.frame q t d e)
    ∙ ap (λ (b : Bool). b || (is_first (g ∷ c ∷ []) c && is_illegal_at game q t k g.frame)) (never _)
    ∙ ap (λ (b : Bool). b && is_illegal_at game q t k g.frame) (first_next g c (c ∷ []) q t m o f ∙ first_here c [] q t d e))
    ∙ ap (λ (x : Finding). if is_illegal_at game q t k g.frame then Some x else None) (clash_same q (player_of g.frame) t (turn_of g.frame) Illegal g.entry c.entry (min c.entry g.entry) (max c.entry g.entry) (sym (ap player_of f)) (sym (ap turn_of f)) (omega arith) (omega arith)))
    ∙ joined _ _

-- in either order
pub both_slots : (game : Game) (q t : ℕ) (k : Known) (c g : Received) (d : Digest) (m : Move) (o : Nonce) → c.frame ≡ Commit q t d → g.frame ≡ Reveal q t m o →
    first_of (clash_among game q t k (in_order (Some c ∷ Some g ∷ []))) kinds ≡ option_or (pair_clash game q t (Some c) (Some g)) (if is_illegal_at game q t k g.frame then Some (illegal_clash c g) else None)
both_slots game q t k c g d m o e f = go (nat_lt c.entry g.entry) refl
  where
    go : (b : Bool) → nat_lt c.entry g.entry ≡ b →
        first_of (clash_among game q t k (if b then c ∷ g ∷ [] else g ∷ c ∷ [])) kinds ≡ option_or (pair_clash game q t (Some c) (Some g)) (if is_illegal_at game q t k g.frame then Some (illegal_clash c g) else None)
    go true h = first_then game q t k c g d m o e f (ltb-true c.entry g.entry h)
    go false h = then_first game q t k c g d m o e f (ltb-false c.entry g.entry h)

pub end_none : (t n : ℕ) (x : Option Finding) → (t ≡ n → x ≡ None) → None ≡ end_clash t n x
end_none t n x h = go (t == n) refl
  where
    go : (b : Bool) → (t == n) ≡ b → None ≡ (if b then x else None)
    go true e = sym (h (eqb-true t n e))
    go false e = refl

pub end_here : (t : ℕ) (x : Option Finding) → end_clash t t x ≡ x
end_here t x = ap (λ (b : Bool). if b then x else None) (eq-eqb t t refl)

-- a turn without both frames shows nothing
uncommitted : (game : Game) (track : Track) (o : Option Received) → illegal_in (slot_step game track None o) ≡ None
uncommitted game track None = refl
uncommitted game track (Some r) = go r.frame
  where
    go : (f : TurnFrame) → illegal_in (frame_step game track None r f) ≡ None
    go (Commit p t d) = refl
    go (Reveal p t m n) = refl

-- the first clash of a turn, where the slots show all that is known
pub turn_value : (game : Game) (q t : ℕ) (ss : List (Option Received)) (at : Stream) → IsSession game → IsHeld game q ss at →
    clash_in game q (in_order ss) t ≡ option_or (pair_clash game q t (slot ss (2 * t)) (slot ss (2 * t + 1))) (end_clash t at.resolved (illegal_at game ss at))
unfolding clash_in
turn_value game q t ss at is h =
    ap (λ (k : Known). first_of (clash_among game q t k (of_turn t (in_order ss))) kinds) h.known
    ∙ ap (λ (rs : List Received). first_of (clash_among game q t (shown ss at.commits at.resolved) rs) kinds) (turn_slots q at.commits at.resolved t ss h.slots)
    ∙ go (slot ss (2 * t)) refl (slot ss (2 * t + 1)) refl
  where
    -- the turn's slots are those that the reveal is judged by
    judged_by : (a b : Option Received) → slot ss (2 * t) ≡ a → slot ss (2 * t + 1) ≡ b → t ≡ at.resolved → illegal_at game ss at ≡ illegal_in (slot_step game at.track a b)
    judged_by a b e i n =
        ap (λ (v : ℕ). illegal_in (slot_step game at.track (slot ss (2 * v)) (slot ss (2 * v + 1)))) (sym n)
        ∙ ap (λ (x : Option Received). illegal_in (slot_step game at.track x (slot ss (2 * t + 1)))) e ∙ ap (λ (x : Option Received). illegal_in (slot_step game at.track a x)) i

    value : (c g : Received) (d : Digest) (m : Move) (o : Nonce) → slot ss (2 * t) ≡ Some c → c.frame ≡ Commit q t d → slot ss (2 * t + 1) ≡ Some g → g.frame ≡ Reveal q t m o →
        (if is_illegal_at game q t (shown ss at.commits at.resolved) g.frame then Some (illegal_clash c g) else None) ≡ end_clash t at.resolved (illegal_at game ss at)
    value c g d m o e f i j = elim (cases_lt t at.resolved) [
      | inl below ↦
          ap (λ (b : Bool). if b then Some (illegal_clash c g) else None) (resolved_legal game q at.commits at.resolved t ss g m o h.slots h.known below i j)
          ∙ end_none t at.resolved (illegal_at game ss at) (λ n. absurd (omega arith))
      | inr above ↦ elim (cases_lt at.resolved t) [
        | inl later ↦
            ap (λ (b : Bool). if b then Some (illegal_clash c g) else None) (later_unjudged game q at.commits at.resolved t ss g m o h.slots later j)
            ∙ end_none t at.resolved (illegal_at game ss at) (λ n. absurd (omega arith))
        | inr here ↦
            let same : t ≡ at.resolved = omega arith in
            let held = held_here game q ss at c is h (ap (λ (n : ℕ). slot ss (2 * n)) (sym same) ∙ e) in
            illegal_here game q t ss at c g d m o h.slots (held_reach game q ss at h) same (omega arith) e f i j
            ∙ sym (ap (λ (n : ℕ). end_clash t n (illegal_at game ss at)) (sym same) ∙ end_here t (illegal_at game ss at))
      ]
    ]

    nothing : (rs : List Received) → ((kind : Kind) → clash_among game q t (shown ss at.commits at.resolved) rs kind ≡ None) → first_of (clash_among game q t (shown ss at.commits at.resolved) rs) kinds ≡ None
    nothing rs none = kinds_are (clash_among game q t (shown ss at.commits at.resolved) rs) None None None None (none TwoCommits) (none BadOpening) (none Collision) (none Illegal)

    go : (a : Option Received) → slot ss (2 * t) ≡ a → (b : Option Received) → slot ss (2 * t + 1) ≡ b →
        first_of (clash_among game q t (shown ss at.commits at.resolved) (in_order (a ∷ b ∷ []))) kinds ≡ option_or (pair_clash game q t a b) (end_clash t at.resolved (illegal_at game ss at))
    go None e None i =
        nothing [] (λ kind. among_none game q t (shown ss at.commits at.resolved) kind)
        ∙ end_none t at.resolved (illegal_at game ss at) (λ n. judged_by None None e i n ∙ uncommitted game at.track None)
    go None e (Some g) i =
        nothing (g ∷ []) (λ kind. among_one game q t (shown ss at.commits at.resolved) g kind)
        ∙ end_none t at.resolved (illegal_at game ss at) (λ n. judged_by None (Some g) e i n ∙ uncommitted game at.track (Some g))
    go (Some c) e None i =
        nothing (c ∷ []) (λ kind. among_one game q t (shown ss at.commits at.resolved) c kind)
        ∙ end_none t at.resolved (illegal_at game ss at) (λ n. judged_by (Some c) None e i n)
    go (Some c) e (Some g) i =
        let a = h.slots.own (2 * t) c e in
        let b = h.slots.own (2 * t + 1) g i in
        let cf = is_commitment c.frame q t a.0 a.1 in
        let gf = S.is_reveal g.frame q t b.0 b.1 in
        both_slots game q t (shown ss at.commits at.resolved) c g cf.0 gf.0 gf.1 cf.1 gf.2
        ∙ ap (option_or (pair_clash game q t (Some c) (Some g))) (value c g cf.0 gf.0 gf.1 e cf.1 i gf.2)
