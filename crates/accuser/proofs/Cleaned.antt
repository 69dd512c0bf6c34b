-- Cleaned: logs without the frames of players whom the session lacks show the same of the others.
use Rattle.std.proofs.Common.{◌≡◌, ℕ, zero, suc, ◌+◌, ◌*◌, ◌<◌, true, false, Bool, List, [], ◌∷◌, ◌++◌, None, refl, sym, ap, ◌∙◌, subst, arith}
use Rattle.std.specs.Prelude.{flat_map, map, nat_lt, not, option_map, ◌==◌}
use Rattle.std.specs.List.{range_with_len}
use Rattle.std.proofs.lemmas.Bool.{and_from, eq-eqb, false≢true, lt-ltb, ltb-true, ne_eqb}
use Rattle.definitions.specs.declared.frames.TurnFrame.{TurnFrame}
use Rattle.definitions.specs.declared.logs.Entry.{Entry}
use Rattle.definitions.specs.declared.logs.Entry.TheVariants.{Chose, Made, Got}
use Rattle.definitions.specs.declared.findings.Kind.{Kind}
use Rattle.definitions.specs.declared.findings.Kind.TheVariants.{TwoCommits, BadOpening, Collision, Illegal}
use Rattle.definitions.specs.declared.findings.Spot.{Spot}
use Rattle.definitions.specs.declared.findings.Finding.{Finding}
use Rattle.definitions.specs.Lists.{EachIs, item_or}
use Rattle.definitions.specs.World.{Game, players_of}
use Rattle.definitions.specs.Logs.{got_in, got_of, player_of, turn_of}
use Rattle.definitions.specs.Held.{known_to}
use Rattle.definitions.specs.Entries.{is_well_formed}
use Rattle.definitions.specs.Findings.{Sighting, are_illegal, finding_at, finding_of, findings, first_pair, got_known, show_kind, sighting_at, sightings, sightings_from}
use Rattle.definitions.specs.Exhibits.{Shows}
use Rattle.definition_laws.specs.Members.{Has}
use Rattle.definition_laws.specs.Spots.{IsSighting}
use Rattle.definition_laws.proofs.Least.{Has_findings, finding_is_least, findings_Has}
use Rattle.definition_laws.proofs.Sighted.{seen_is_sighting, sighting_is_seen}
use Rattle.evidence.specs.Laws.{FindingsAreShown, IsLogOf}
use Rattle.evidence.specs.Showing.{commit_first, frame_at, frames_by, frames_of_finding, pair_at, turn_shown, turns_shown}
use Rattle.evidence.proofs.Showing.{frame_sighted}

-- an entry that shows nothing of any player
nothing : Entry
nothing = Chose 0 (record { to = record { x = 0; y = 0 }; strike = None }) (record { bytes = [] })

clean_got : Bool → ℕ → TurnFrame → Entry
clean_got true q f = Got q f
clean_got false q f = nothing

-- the entry, and in the place of a frame of a player past so many one that shows nothing
clean : ℕ → Entry → Entry
clean n (Chose t m k) = Chose t m k
clean n (Made f) = Made f
clean n (Got q f) = clean_got (nat_lt q n) q f

clean_log : ℕ → List Entry → List Entry
clean_log n h = map (clean n) h

clean_logs : ℕ → List (List Entry) → List (List Entry)
clean_logs n logs = map (clean_log n) logs

-- a frame that is taken away is of another player
other_player : (n p q : ℕ) → q < n → nat_lt p n ≡ false → (p == q) ≡ false
other_player n p q lt past = ne_eqb p q (λ same. false≢true (sym past ∙ ap (λ (z : ℕ). nat_lt z n) same ∙ lt-ltb q n lt))

seen_same : (n q t log i : ℕ) (e : Entry) → q < n → sighting_at q t log i (clean n e) ≡ sighting_at q t log i e
unfolding clean clean_got nothing
seen_same n q t log i (Chose u m k) lt = refl
seen_same n q t log i (Made f) lt = refl
seen_same n q t log i (Got p f) lt = go (nat_lt p n) refl
  where
    go : (b : Bool) → nat_lt p n ≡ b → sighting_at q t log i (clean_got b p f) ≡ sighting_at q t log i (Got p f)
    go true e = refl
    go false e = let other : (p == q) ≡ false = other_player n p q lt e in rw other refl

got_same : (n q : ℕ) (e : Entry) → q < n → got_in q (clean n e) ≡ got_in q e
unfolding clean clean_got nothing
got_same n q (Chose u m k) lt = refl
got_same n q (Made f) lt = refl
got_same n q (Got p f) lt = go (nat_lt p n) refl
  where
    go : (b : Bool) → nat_lt p n ≡ b → got_in q (clean_got b p f) ≡ got_in q (Got p f)
    go true e = refl
    go false e = let other : (p == q) ≡ false = other_player n p q lt e in rw other refl

from_same : (n q t log i : ℕ) (h : List Entry) → q < n → sightings_from q t log i (clean_log n h) ≡ sightings_from q t log i h
unfolding sightings_from clean_log
from_same n q t log i [] lt = refl
from_same n q t log i (e ∷ es) lt =
    ap (λ (ss : List Sighting). ss ++ sightings_from q t log (i + 1) (map (clean n) es)) (seen_same n q t log i e lt)
    ∙ ap (λ (ss : List Sighting). sighting_at q t log i e ++ ss) (from_same n q t log (i + 1) es lt)

sightings_same : (n q t log : ℕ) (logs : List (List Entry)) → q < n → sightings q t log (clean_logs n logs) ≡ sightings q t log logs
unfolding sightings clean_logs
sightings_same n q t log [] lt = refl
sightings_same n q t log (h ∷ hs) lt =
    ap (λ (ss : List Sighting). ss ++ sightings q t (log + 1) (map (clean_log n) hs)) (from_same n q t log 0 h lt)
    ∙ ap (λ (ss : List Sighting). sightings_from q t log 0 h ++ ss) (sightings_same n q t (log + 1) hs lt)

of_same : (n q : ℕ) (h : List Entry) → q < n → got_of q (clean_log n h) ≡ got_of q h
unfolding got_of clean_log
of_same n q [] lt = refl
of_same n q (e ∷ es) lt =
    ap (λ (fs : List TurnFrame). fs ++ flat_map (got_in q) (map (clean n) es)) (got_same n q e lt)
    ∙ ap (λ (fs : List TurnFrame). got_in q e ++ fs) (of_same n q es lt)

at_same : (n : ℕ) (logs : List (List Entry)) (i : ℕ) → item_or (clean_logs n logs) i [] ≡ clean_log n (item_or logs i [])
unfolding clean_log clean_logs
at_same n [] i = refl
at_same n (h ∷ hs) zero = refl
at_same n (h ∷ hs) (suc i) = at_same n hs i

module _ (game : Game) (q t : ℕ) (logs : List (List Entry)) (lt : q < players_of game) where
  of_log : (i : ℕ) → got_of q (item_or (clean_logs (players_of game) logs) i []) ≡ got_of q (item_or logs i [])
  of_log i = ap (got_of q) (at_same (players_of game) logs i) ∙ of_same (players_of game) q (item_or logs i []) lt

  from_log : (log i : ℕ) → sightings_from q t log 0 (item_or (clean_logs (players_of game) logs) i []) ≡ sightings_from q t log 0 (item_or logs i [])
  from_log log i = ap (sightings_from q t log 0) (at_same (players_of game) logs i) ∙ from_same (players_of game) q t log 0 (item_or logs i []) lt

  known_log : (i : ℕ) → got_known game q (item_or (clean_logs (players_of game) logs) i []) ≡ got_known game q (item_or logs i [])
  known_log i = ap (λ (fs : List TurnFrame). known_to game q fs (2 * game.turns)) (of_log i)

  illegal_same : (a b : Sighting) → are_illegal game q t (clean_logs (players_of game) logs) a b ≡ are_illegal game q t logs a b
  unfolding are_illegal
  illegal_same a b = let first = from_log a.spot.log a.spot.log in let held = known_log a.spot.log in rw (first, held) refl

  kind_same : (k : Kind) (a b : Sighting) → show_kind game q t (clean_logs (players_of game) logs) k a b ≡ show_kind game q t logs k a b
  unfolding show_kind
  kind_same TwoCommits a b = refl
  kind_same BadOpening a b = refl
  kind_same Collision a b = refl
  kind_same Illegal a b = rw (illegal_same a b, illegal_same b a) refl

  finding_same : (k : Kind) → finding_at game (clean_logs (players_of game) logs) q t k ≡ finding_at game logs q t k
  unfolding finding_at
  finding_same k =
      let tests : show_kind game q t (clean_logs (players_of game) logs) k ≡ show_kind game q t logs k = λ i. λ a b. kind_same k a b i in
      ap (λ (ss : List Sighting). option_map (finding_of q t k) (first_pair (show_kind game q t (clean_logs (players_of game) logs) k) ss)) (sightings_same (players_of game) q t 0 logs lt)
      ∙ ap (λ (test : Sighting → Sighting → Bool). option_map (finding_of q t k) (first_pair test (sightings q t 0 logs))) tests

  sighted_same : (s : Sighting) → IsSighting logs q t s → IsSighting (clean_logs (players_of game) logs) q t s
  sighted_same s w =
      seen_is_sighting q t (clean_logs (players_of game) logs) s
      (subst (λ (ss : List Sighting). Has ss s) (sym (sightings_same (players_of game) q t 0 logs lt)) (sighting_is_seen q t logs s w))

  spot_same : (s : Sighting) (spot : Spot) → spot ≡ s.spot → IsSighting logs q t s → frame_at (clean_logs (players_of game) logs) spot ≡ frame_at logs spot
  spot_same s spot at w = frame_sighted (clean_logs (players_of game) logs) q t s spot at (sighted_same s w) ∙ sym (frame_sighted logs q t s spot at w)

  turns_same : (u i : ℕ) → turns_shown game q u (item_or (clean_logs (players_of game) logs) i []) ≡ turns_shown game q u (item_or logs i [])
  unfolding turns_shown
  turns_same u i = ap (λ (fs : List TurnFrame). flat_map (turn_shown game q (known_to game q fs (2 * game.turns)) fs) (range_with_len 0 u)) (of_log i)

-- a finding of the logs is one of the cleaned ones
finding_stays : (game : Game) (logs : List (List Entry)) (f : Finding) → Has (findings game logs) f → Has (findings game (clean_logs (players_of game) logs)) f
finding_stays game logs f m =
    let at = findings_Has game logs f m in
    Has_findings game (clean_logs (players_of game) logs) f.player f.turn f.kind f at.0 at.1 (finding_same game f.player f.turn logs at.0 f.kind ∙ at.2)

-- by the same frames
frames_same : (game : Game) (logs : List (List Entry)) (f : Finding) → Has (findings game logs) f → frames_of_finding game (clean_logs (players_of game) logs) f ≡ frames_of_finding game logs f
unfolding frames_of_finding
frames_same game logs f m =
    let at = findings_Has game logs f m in
    let w = finding_is_least game logs f.player f.turn f.kind f at.2 in
    let first = spot_same game f.player f.turn logs at.0 w.lower f.first w.first_is w.lower_seen in
    let second = spot_same game f.player f.turn logs at.0 w.higher f.second w.second_is w.higher_seen in
    let pair : pair_at (clean_logs (players_of game) logs) f ≡ pair_at logs f
    = ap (λ (fs : List TurnFrame). fs ++ frame_at (clean_logs (players_of game) logs) f.second) first ∙ ap (λ (fs : List TurnFrame). frame_at logs f.first ++ fs) second in
    go f.kind pair (turns_same game f.player f.turn logs at.0 f.turn f.first.log)
  where
    go : (k : Kind) → pair_at (clean_logs (players_of game) logs) f ≡ pair_at logs f →
        turns_shown game f.player f.turn (item_or (clean_logs (players_of game) logs) f.first.log []) ≡ turns_shown game f.player f.turn (item_or logs f.first.log []) →
        frames_by game (clean_logs (players_of game) logs) f k ≡ frames_by game logs f k
    go TwoCommits pair before = pair
    go BadOpening pair before = pair
    go Collision pair before = pair
    go Illegal pair before =
        ap (λ (fs : List TurnFrame). fs ++ commit_first (pair_at (clean_logs (players_of game) logs) f)) before
        ∙ ap (λ (fs : List TurnFrame). turns_shown game f.player f.turn (item_or logs f.first.log []) ++ commit_first fs) pair

-- the entry got a frame of a turn that is played from the frame's player
abbrev pub IsOwnGot : Game → Entry → Type 0
IsOwnGot game e = (f : TurnFrame) × (e ≡ Got (player_of f) f) × (turn_of f < game.turns)

well_formed : (game : Game) (f : TurnFrame) → turn_of f < game.turns → is_well_formed game (players_of game) (clean (players_of game) (Got (player_of f) f)) ≡ true
unfolding clean clean_got nothing
well_formed game f played = go (nat_lt (player_of f) (players_of game)) refl
  where
    go : (b : Bool) → nat_lt (player_of f) (players_of game) ≡ b → is_well_formed game (players_of game) (clean_got b (player_of f) f) ≡ true
    go true e =
        let other : not (player_of f == players_of game) ≡ true
        = ap not (ne_eqb (player_of f) (players_of game) (λ same. absurd (let lt = ltb-true (player_of f) (players_of game) e in omega (arith, lt, same)))) in
        and_from _ _ (lt-ltb (turn_of f) game.turns played) (and_from _ _ (and_from _ _ e other) (eq-eqb (player_of f) (player_of f) refl))
    go false e = lt-ltb 0 game.turns (omega (arith, played))

log_well_formed : (game : Game) (h : List Entry) → EachIs (IsOwnGot game) h → EachIs (λ e. is_well_formed game (players_of game) e ≡ true) (clean_log (players_of game) h)
unfolding clean_log
log_well_formed game [] all = tt
log_well_formed game (e ∷ es) all =
    let own = all.0 in
    (ap (λ (x : Entry). is_well_formed game (players_of game) (clean (players_of game) x)) own.1 ∙ well_formed game own.0 own.2, log_well_formed game es all.1)

cleaned_are_logs : (game : Game) (logs : List (List Entry)) → EachIs (λ h. EachIs (IsOwnGot game) h) logs → EachIs (IsLogOf game) (clean_logs (players_of game) logs)
unfolding clean_logs
cleaned_are_logs game [] all = tt
cleaned_are_logs game (h ∷ hs) all = ((players_of game, log_well_formed game h all.0), cleaned_are_logs game hs all.1)

-- what is found in logs that got each frame from its player is shown by their frames
pub own_findings_shown : FindingsAreShown → (game : Game) (logs : List (List Entry)) (f : Finding) → EachIs (λ h. EachIs (IsOwnGot game) h) logs → Has (findings game logs) f →
    Shows game f.player f.turn f.kind (frames_of_finding game logs f)
own_findings_shown law game logs f all m =
    subst (Shows game f.player f.turn f.kind) (frames_same game logs f m) (law game (clean_logs (players_of game) logs) f (cleaned_are_logs game logs all) (finding_stays game logs f m))
