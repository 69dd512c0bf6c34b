-- Padded: logs behind which empty ones stand show what they show without these.
use Rattle.std.proofs.Common.{◌≡◌, ℕ, zero, suc, ◌+◌, ◌-◌, ◌*◌, ◌<◌, List, [], ◌∷◌, ◌++◌, Option, None, Some, length, map, ap, arith, refl, subst, sym, ◌∙◌}
use Rattle.std.specs.Prelude.{◌&&◌, ◌||◌, ◌==◌, Err, IfOk, Ok, Result, filter_map, flat_map, option_map, replicate, slice_get}
use Rattle.std.specs.List.{cons_option, range_with_len}
use Rattle.definitions.specs.declared.logs.Entry.{Entry}
use Rattle.definitions.specs.declared.findings.Kind.{Kind}
use Rattle.definitions.specs.declared.findings.Kind.TheVariants.{TwoCommits, BadOpening, Collision, Illegal}
use Rattle.definitions.specs.declared.findings.Finding.{Finding}
use Rattle.definitions.specs.Lists.{item_or}
use Rattle.definitions.specs.World.{Game, players_of}
use Rattle.definitions.specs.Findings.{Sighting, are_illegal, finding_at, finding_of, findings, findings_in, first_pair, got_known, is_first_commit, is_illegal_at, kinds, show_kind, sightings, sightings_from}
use Rattle.definitions.specs.Logs.{got_of}
use Rattle.definitions.specs.Held.{Known}
use Rattle.definition_laws.specs.Members.{Has}
use Rattle.definition_laws.proofs.ForPeers.{known_of_none}
use Rattle.definitions.proofs.Items.{item_is}
use Rattle.plain_lemmas.proofs.Lists.{get_or-repeated}
use Rattle.definition_laws.proofs.Silent.{pair_alike, filter_map_alike, flat_map_alike}
use Rattle.frame_index.specs.declared.limits.TheConstants.{MOST_LOGS}
use Rattle.evidence.specs.declared.exhibit.Exhibit.{Exhibit}
use Rattle.evidence.specs.Showing.{commit_first, frame_at, frame_got, frames_by, frames_of_finding, pair_at, turns_shown}
use Rattle.auditor.specs.Audits.{AuditState, StandsFor, padded}
use Rattle.auditor.specs.Agreed.{AreOwned, agreed_move, agreed_moves, all_agreed_moves, moves_given, resolved_at, resolved_by, world_by}
use Rattle.frame_index.specs.Agreeing.{one_move}
use Rattle.auditor.specs.Exhibits.{IsExhibitOf}
use Rattle.auditor.specs.Reports.{IsReportOf, Reported}

-- what follows of a value, if there is one
pub if_ok : {T E : Type 0} {P Q : T → Type 0} (r : Result T E) → ((x : T) → P x → Q x) → IfOk r P → IfOk r Q
if_ok (Ok x) f p = f x p
if_ok (Err e) f p = tt

map_as : {X Y : Type 0} (f g : X → Y) (xs : List X) → ((x : X) → f x ≡ g x) → map f xs ≡ map g xs
map_as f g [] h = refl
map_as f g (x ∷ xs) h = ap (λ y. y ∷ map f xs) (h x) ∙ ap (λ ys. g x ∷ ys) (map_as f g xs h)

-- functions that give nothing from a place on
none_from : {Y : Type 0} (f : ℕ → Option Y) (a n : ℕ) → ((i : ℕ) → f (a + i) ≡ None) → filter_map f (range_with_len a n) ≡ []
none_from f a zero h = refl
none_from f a (suc n) h =
    let first : a + 0 ≡ a = omega arith in
    ap (λ o. cons_option o (filter_map f (range_with_len (a + 1) n))) (ap f (sym first) ∙ h 0) ∙
    none_from f (a + 1) n (λ i. let next : (a + 1) + i ≡ a + suc i = omega arith in ap f next ∙ h (suc i))

first_some : {Y : Type 0} (f : ℕ → Option Y) (a n k : ℕ) → ((i : ℕ) → f ((a + n) + i) ≡ None) → filter_map f (range_with_len a (n + k)) ≡ filter_map f (range_with_len a n)
first_some f a zero k h =
    let all : 0 + k ≡ k = omega arith in
    ap (λ m. filter_map f (range_with_len a m)) all ∙ none_from f a k (λ i. let at : a + i ≡ (a + 0) + i = omega arith in ap f at ∙ h i)
first_some f a (suc n) k h =
    let all : suc n + k ≡ suc (n + k) = omega arith in
    ap (λ m. filter_map f (range_with_len a m)) all ∙ ap (cons_option (f a)) (first_some f (a + 1) n k (λ i. let at : ((a + 1) + n) + i ≡ (a + suc n) + i = omega arith in ap f at ∙ h i))

pub item_padded : (logs : List (List Entry)) (k i : ℕ) → item_or (padded logs k) i [] ≡ item_or logs i []
item_padded [] k i = let none : List Entry = [] in sym (item_is (replicate k none) i none) ∙ get_or-repeated k i none
item_padded (h ∷ logs) k zero = refl
item_padded (h ∷ logs) k (suc i) = item_padded logs k i

item_past : (logs : List (List Entry)) (i : ℕ) → item_or logs (length logs + i) [] ≡ []
item_past [] i = refl
item_past (h ∷ logs) i =
    let at : length (h ∷ logs) + i ≡ suc (length logs + i) = omega arith in
    ap (λ n. item_or (h ∷ logs) n []) at ∙ item_past logs i

pub length_padded : (logs : List (List Entry)) (k : ℕ) → length (padded logs k) ≡ length logs + k
length_padded [] zero = refl
length_padded [] (suc k) = let now = length_padded [] k in omega (arith, now)
length_padded (h ∷ logs) k = let now = length_padded logs k in omega (arith, now)

none_sighted : (q t n k : ℕ) → sightings q t n (replicate k []) ≡ []
unfolding sightings sightings_from
none_sighted q t n zero = refl
none_sighted q t n (suc k) = none_sighted q t (n + 1) k

sighted : (q t n : ℕ) (logs : List (List Entry)) (k : ℕ) → sightings q t n (padded logs k) ≡ sightings q t n logs
unfolding sightings
sighted q t n [] k = none_sighted q t n k
sighted q t n (h ∷ logs) k = ap (λ ss. sightings_from q t n 0 h ++ ss) (sighted q t (n + 1) logs k)

module _ (game : Game) (logs : List (List Entry)) (k : ℕ) where
  -- the findings
  illegal_as : (q t : ℕ) (a b : Sighting) → are_illegal game q t (padded logs k) a b ≡ are_illegal game q t logs a b
  unfolding are_illegal
  illegal_as q t a b =
      ap (λ h. (a.spot.log == b.spot.log) && is_first_commit (sightings_from q t a.spot.log 0 h) a && is_illegal_at game q t (got_known game q h) b.frame)
      (item_padded logs k a.spot.log)

  kind_as : (q t : ℕ) (kind : Kind) (a b : Sighting) → show_kind game q t (padded logs k) kind a b ≡ show_kind game q t logs kind a b
  unfolding show_kind
  kind_as q t TwoCommits a b = refl
  kind_as q t BadOpening a b = refl
  kind_as q t Collision a b = refl
  kind_as q t Illegal a b = ap (λ x. x || are_illegal game q t (padded logs k) b a) (illegal_as q t a b) ∙ ap (λ x. are_illegal game q t logs a b || x) (illegal_as q t b a)

  finding_as : (q t : ℕ) (kind : Kind) → finding_at game (padded logs k) q t kind ≡ finding_at game logs q t kind
  unfolding finding_at
  finding_as q t kind =
      ap (λ ss. option_map (finding_of q t kind) (first_pair (show_kind game q t (padded logs k) kind) ss)) (sighted q t 0 logs k) ∙
      ap (option_map (finding_of q t kind)) (pair_alike (show_kind game q t (padded logs k) kind) (show_kind game q t logs kind) (sightings q t 0 logs) (kind_as q t kind))

  turn_as : (q t : ℕ) → findings_in game (padded logs k) q t ≡ findings_in game logs q t
  unfolding findings_in
  turn_as q t = filter_map_alike (finding_at game (padded logs k) q t) (finding_at game logs q t) kinds (finding_as q t)

  pub findings_as : findings game (padded logs k) ≡ findings game logs
  unfolding findings
  findings_as =
      flat_map_alike (λ q. flat_map (findings_in game (padded logs k) q) (range_with_len 0 game.turns)) (λ q. flat_map (findings_in game logs q) (range_with_len 0 game.turns))
      (range_with_len 0 (players_of game))
      (λ q. flat_map_alike (findings_in game (padded logs k) q) (findings_in game logs q) (range_with_len 0 game.turns) (turn_as q))

  -- their evidence
  pair_shown : (f : Finding) → pair_at (padded logs k) f ≡ pair_at logs f
  pair_shown f =
      ap (λ h. frame_got (slice_get h f.first.entry) ++ frame_at (padded logs k) f.second) (item_padded logs k f.first.log) ∙
      ap (λ h. frame_at logs f.first ++ frame_got (slice_get h f.second.entry)) (item_padded logs k f.second.log)

  frames_as : (f : Finding) (kind : Kind) → frames_by game (padded logs k) f kind ≡ frames_by game logs f kind
  frames_as f TwoCommits = pair_shown f
  frames_as f BadOpening = pair_shown f
  frames_as f Collision = pair_shown f
  frames_as f Illegal =
      ap (λ h. turns_shown game f.player f.turn h ++ commit_first (pair_at (padded logs k) f)) (item_padded logs k f.first.log) ∙
      ap (λ fs. turns_shown game f.player f.turn (item_or logs f.first.log []) ++ commit_first fs) (pair_shown f)

  pub shown_as : (f : Finding) → frames_of_finding game (padded logs k) f ≡ frames_of_finding game logs f
  unfolding frames_of_finding
  shown_as f = frames_as f f.kind

  -- what the logs agree on, where the logs behind have no owners
  module _ (owners owners' : List (Option ℕ)) (owned : (i : ℕ) → item_or owners i None ≡ item_or owners' i None) (unowned : (i : ℕ) → item_or owners (length logs + i) None ≡ None) where
    resolved_as : (q t i : ℕ) → resolved_at game owners (padded logs k) q t i ≡ resolved_at game owners' logs q t i
    resolved_as q t i = ap (λ h. resolved_by game (item_or owners i None) h q t) (item_padded logs k i) ∙ ap (λ o. resolved_by game o (item_or logs i []) q t) (owned i)

    unresolved : (q t i : ℕ) → resolved_at game owners' logs q t ((0 + length logs) + i) ≡ None
    unfolding got_of
    unresolved q t i =
        let at : (0 + length logs) + i ≡ length logs + i = omega arith in
        ap (resolved_at game owners' logs q t) at ∙
        ap (λ o. resolved_by game o (item_or logs (length logs + i) []) q t) (sym (owned (length logs + i)) ∙ unowned i) ∙
        ap (λ h. resolved_by game None h q t) (item_past logs i) ∙
        ap (λ (known : Known). slice_get known.moves t) (known_of_none game q (2 * game.turns))

    given_as : (q t : ℕ) → moves_given game owners (padded logs k) q t ≡ moves_given game owners' logs q t
    given_as q t =
        filter_map_alike (resolved_at game owners (padded logs k) q t) (resolved_at game owners' logs q t) (range_with_len 0 (length (padded logs k))) (resolved_as q t) ∙
        ap (λ n. filter_map (resolved_at game owners' logs q t) (range_with_len 0 n)) (length_padded logs k) ∙
        first_some (resolved_at game owners' logs q t) 0 (length logs) k (unresolved q t)

    move_as : (q t : ℕ) → agreed_move game owners (padded logs k) q t ≡ agreed_move game owners' logs q t
    unfolding agreed_move
    move_as q t = ap one_move (given_as q t)

    pub moves_as : (q : ℕ) → agreed_moves game owners (padded logs k) q ≡ agreed_moves game owners' logs q
    unfolding agreed_moves
    moves_as q = filter_map_alike (agreed_move game owners (padded logs k) q) (agreed_move game owners' logs q) (range_with_len 0 game.turns) (move_as q)

    pub all_moves_as : all_agreed_moves game owners (padded logs k) ≡ all_agreed_moves game owners' logs
    all_moves_as = map_as (agreed_moves game owners (padded logs k)) (agreed_moves game owners' logs) (range_with_len 0 (players_of game)) moves_as

-- what stands past the end of the logs has no owner, and what doesn't is the logs'
owner_there : (owners : List (Option ℕ)) (i o : ℕ) → item_or owners i None ≡ Some o → i < length owners
owner_there [] i o e = absurd (let never : None ≡ Some o = e in cc)
owner_there (x ∷ owners) zero o e = omega arith
owner_there (x ∷ owners) (suc i) o e = let lt = owner_there owners i o e in omega (arith, lt)

owner_past : (owners : List (Option ℕ)) (i : ℕ) → item_or owners (length owners + i) None ≡ None
owner_past [] i = refl
owner_past (x ∷ owners) i =
    let at : length (x ∷ owners) + i ≡ suc (length owners + i) = omega arith in
    ap (λ n. item_or (x ∷ owners) n None) at ∙ owner_past owners i

log_there : (logs : List (List Entry)) (k i : ℕ) → i < length logs → slice_get (padded logs k) i ≡ slice_get logs i
log_there [] k i lt = absurd (omega (arith, lt))
log_there (h ∷ logs) k zero lt = refl
log_there (h ∷ logs) k (suc i) lt = log_there logs k i (omega (arith, lt))

-- what an auditor says of the logs and the empty ones behind them, it says of the logs
module _ (game : Game) (owners : List (Option ℕ)) (logs : List (List Entry)) (a : AuditState) (stands : StandsFor game owners logs a) where
  abbrev pub all : List (List Entry)
  all = padded logs (MOST_LOGS - length logs)

  past : (i : ℕ) → item_or a.owners (length logs + i) None ≡ None
  past i = stands.owners_are (length logs + i) ∙ ap (λ n. item_or owners (n + i) None) (sym stands.each) ∙ owner_past owners i

  all_owned : AreOwned game owners logs → AreOwned game a.owners all
  all_owned owned i o h at own =
      let theirs : item_or owners i None ≡ Some o = sym (stands.owners_are i) ∙ own in
      let lt = owner_there owners i o theirs in
      let each = stands.each in
      owned i o h (sym (log_there logs (MOST_LOGS - length logs) i (omega (arith, lt, each))) ∙ at) theirs

  pub report_stands : (r : Reported) → IsReportOf game a.owners all r → IsReportOf game owners logs r
  report_stands r is = record {
    found = is.found ∙ findings_as game logs (MOST_LOGS - length logs);
    agreed = λ owned q lt. is.agreed (all_owned owned) q lt ∙ ap length (moves_as game logs (MOST_LOGS - length logs) a.owners owners stands.owners_are past q);
    world = λ owned q lt. is.world (all_owned owned) q lt ∙ ap (λ ms. world_by game ms q) (all_moves_as game logs (MOST_LOGS - length logs) a.owners owners stands.owners_are past);
    beyond = is.beyond;
  }

  pub finding_stands : (f : Finding) → Has (findings game logs) f → Has (findings game all) f
  finding_stands f m = subst (λ (fs : List Finding). Has fs f) (sym (findings_as game logs (MOST_LOGS - length logs))) m

  pub exhibit_stands : (f : Finding) (x : Exhibit) → IsExhibitOf game all f x → IsExhibitOf game logs f x
  exhibit_stands f x is = record { player = is.player; turn = is.turn; kind = is.kind; frames = is.frames ∙ shown_as game logs (MOST_LOGS - length logs) f }
