-- Silent: an entry that got nothing changes no finding.
use Rattle.std.proofs.Common.{Bool, List, None, Some, [], ap, refl, zero, suc, ℕ, ◌*◌, ◌++◌, ◌+◌, ◌∙◌, ◌∷◌, ◌≡◌, Option}
use Rattle.std.specs.Prelude.{filter_map, flat_map, option_map, ◌&&◌, ◌==◌}
use Rattle.std.specs.List.{range_with_len}
use Rattle.definitions.specs.declared.world.Move.{Move}
use Rattle.definitions.specs.declared.openings.Nonce.{Nonce}
use Rattle.definitions.specs.declared.frames.TurnFrame.{TurnFrame}
use Rattle.definitions.specs.declared.logs.Entry.{Entry}
use Rattle.definitions.specs.declared.logs.Entry.TheVariants.{Chose, Made}
use Rattle.definitions.specs.declared.findings.Kind.{Kind}
use Rattle.definitions.specs.declared.findings.Kind.TheVariants.{TwoCommits, BadOpening, Collision, Illegal}
use Rattle.definitions.specs.declared.findings.Finding.{Finding}
use Rattle.definitions.specs.Lists.{is_empty, item_or}
use Rattle.definitions.specs.World.{Game, players_of}
use Rattle.definitions.specs.Logs.{got_in, got_of}
use Rattle.definitions.specs.Findings.{Sighting, are_illegal, finding_at, finding_of, findings, findings_in, first_pair, got_known, is_clean, is_first_commit, is_illegal_at, kinds, show_kind, sighting_at, sightings, sightings_from}
use Rattle.definitions.specs.Advance.{advance, advance_by, next_made, with_made}
use Rattle.definition_laws.proofs.Listing.{append_nil, flat_map_append}

-- the logs got the same frames at the same entries
pub record GotAlike (g h : List Entry) : Type 0 where
  pub frames : (q : ℕ) → got_of q g ≡ got_of q h
  pub sights : (q t log : ℕ) → sightings_from q t log 0 g ≡ sightings_from q t log 0 h

-- one log that got the same shows the same
illegal_alike : (game : Game) (q t : ℕ) (g h : List Entry) (a b : Sighting) → GotAlike g h → are_illegal game q t (g ∷ []) a b ≡ are_illegal game q t (h ∷ []) a b
unfolding are_illegal
illegal_alike game q t g h a b w = at a.spot.log
  where
    at : (n : ℕ) →
        ((n == b.spot.log) && is_first_commit (sightings_from q t n 0 (item_or (g ∷ []) n [])) a && is_illegal_at game q t (got_known game q (item_or (g ∷ []) n [])) b.frame)
        ≡ ((n == b.spot.log) && is_first_commit (sightings_from q t n 0 (item_or (h ∷ []) n [])) a && is_illegal_at game q t (got_known game q (item_or (h ∷ []) n [])) b.frame)
    at zero = rw (w.frames q, w.sights q t 0) refl
    at (suc n) = refl

kind_alike : (game : Game) (q t : ℕ) (g h : List Entry) (k : Kind) (a b : Sighting) → GotAlike g h → show_kind game q t (g ∷ []) k a b ≡ show_kind game q t (h ∷ []) k a b
unfolding show_kind
kind_alike game q t g h TwoCommits a b w = refl
kind_alike game q t g h BadOpening a b w = refl
kind_alike game q t g h Collision a b w = refl
kind_alike game q t g h Illegal a b w = rw (illegal_alike game q t g h a b w, illegal_alike game q t g h b a w) refl

-- the same of a list, by tests and by functions that give the same of each item
pub pair_alike : {X : Type 0} (test test' : X → X → Bool) (xs : List X) → ((x y : X) → test x y ≡ test' x y) → first_pair test xs ≡ first_pair test' xs
pair_alike test test' xs h = λ i. first_pair (λ x y. h x y i) xs

pub filter_map_alike : {X Y : Type 0} (f f' : X → Option Y) (xs : List X) → ((x : X) → f x ≡ f' x) → filter_map f xs ≡ filter_map f' xs
filter_map_alike f f' xs h = λ i. filter_map (λ x. h x i) xs

pub flat_map_alike : {X Y : Type 0} (f f' : X → List Y) (xs : List X) → ((x : X) → f x ≡ f' x) → flat_map f xs ≡ flat_map f' xs
flat_map_alike f f' xs h = λ i. flat_map (λ x. h x i) xs

finding_alike : (game : Game) (q t : ℕ) (g h : List Entry) (k : Kind) → GotAlike g h → finding_at game (g ∷ []) q t k ≡ finding_at game (h ∷ []) q t k
unfolding finding_at sightings
finding_alike game q t g h k w =
    ap (option_map (finding_of q t k))
    (ap (λ (ss : List Sighting). first_pair (show_kind game q t (g ∷ []) k) (ss ++ [])) (w.sights q t 0)
    ∙ pair_alike (show_kind game q t (g ∷ []) k) (show_kind game q t (h ∷ []) k) (sightings_from q t 0 0 h ++ []) (λ a b. kind_alike game q t g h k a b w))

pub findings_alike : (game : Game) (g h : List Entry) → GotAlike g h → findings game (g ∷ []) ≡ findings game (h ∷ [])
unfolding findings findings_in
findings_alike game g h w =
    flat_map_alike _ _ (range_with_len 0 (players_of game)) (λ q. flat_map_alike _ _ (range_with_len 0 game.turns)
    (λ t. filter_map_alike (finding_at game (g ∷ []) q t) (finding_at game (h ∷ []) q t) kinds (λ k. finding_alike game q t g h k w)))

sights_push : (q t log i : ℕ) (h : List Entry) (e : Entry) → ((j : ℕ) → sighting_at q t log j e ≡ []) → sightings_from q t log i (h ++ e ∷ []) ≡ sightings_from q t log i h
unfolding sightings_from
sights_push q t log i [] e none = ap (λ (ss : List Sighting). ss ++ []) (none i)
sights_push q t log i (x ∷ h) e none = ap (λ (ss : List Sighting). sighting_at q t log i x ++ ss) (sights_push q t log (i + 1) h e none)

pub got_push : (q : ℕ) (h : List Entry) (e : Entry) → got_in q e ≡ [] → got_of q (h ++ e ∷ []) ≡ got_of q h
unfolding got_of
got_push q h e none = flat_map_append (got_in q) h (e ∷ []) ∙ ap (λ (fs : List TurnFrame). flat_map (got_in q) h ++ (fs ++ [])) none ∙ append_nil (flat_map (got_in q) h)

-- a made frame, or a choice, changes no finding
pub findings_made : (game : Game) (h : List Entry) (f : TurnFrame) → findings game ((h ++ Made f ∷ []) ∷ []) ≡ findings game (h ∷ [])
findings_made game h f = findings_alike game (h ++ Made f ∷ []) h (record { frames = λ q. got_push q h (Made f) refl; sights = λ q t log. sights_push q t log 0 h (Made f) (λ j. refl) })

pub findings_chose : (game : Game) (h : List Entry) (t : ℕ) (m : Move) (n : Nonce) → findings game ((h ++ Chose t m n ∷ []) ∷ []) ≡ findings game (h ∷ [])
findings_chose game h t m n =
    findings_alike game (h ++ Chose t m n ∷ []) h (record { frames = λ q. got_push q h (Chose t m n) refl; sights = λ q u log. sights_push q u log 0 h (Chose t m n) (λ j. refl) })

findings_advance_by : (game : Game) (me n : ℕ) (h : List Entry) → findings game (advance_by game me n h ∷ []) ≡ findings game (h ∷ [])
unfolding advance_by
findings_advance_by game me zero h = refl
findings_advance_by game me (suc n) h = findings_advance_by game me n (with_made h (next_made game me h)) ∙ one (next_made game me h)
  where
    one : (o : Option TurnFrame) → findings game (with_made h o ∷ []) ≡ findings game (h ∷ [])
    one None = refl
    one (Some f) = findings_made game h f

-- advancing changes no finding
pub findings_advance : (game : Game) (me : ℕ) (h : List Entry) → findings game (advance game me h ∷ []) ≡ findings game (h ∷ [])
unfolding advance
findings_advance game me h = findings_advance_by game me (2 * game.turns) h

pub clean_advance : (game : Game) (me : ℕ) (h : List Entry) → is_clean game (advance game me h) ≡ is_clean game h
unfolding is_clean
clean_advance game me h = ap (is_empty {X = Finding}) (findings_advance game me h)
