-- Commonly: the places of a player's stream one behind the other, for all logs that show the same of it.
use Rattle.std.proofs.Common.{Bool, List, None, Some, [], ap, arith, false, inl, inr, refl, subst, suc, sym, true, zero, ℕ, ◌++◌, ◌+◌, ◌<◌, ◌≤◌, ◌∙◌, ◌∷◌, ◌≡◌, ◌⊎◌, Option, length, slice_get}
use Rattle.std.specs.Prelude.{◌&&◌, ◌==◌, if◌then◌else◌, min, option_map}
use Rattle.std.specs.List.{list_any}
use Rattle.std.specs.Option.{option_or}
use Rattle.std.proofs.lemmas.Bool.{and_parts, cases_lt, eq-eqb, eqb-true, false≢true}
use Rattle.std.proofs.lemmas.Option.{slice_get_past}
use Rattle.definitions.specs.declared.findings.Spot.{Spot}
use Rattle.definitions.specs.declared.world.Move.{Move}
use Rattle.definitions.specs.declared.world.Track.{Track}
use Rattle.definitions.specs.declared.openings.Digest.{Digest}
use Rattle.definitions.specs.declared.frames.TurnFrame.{TurnFrame}
use Rattle.definitions.specs.declared.frames.TurnFrame.TheVariants.{Commit, Reveal}
use Rattle.definitions.specs.declared.logs.Entry.{Entry}
use Rattle.definitions.specs.declared.logs.Entry.TheVariants.{Got}
use Rattle.definitions.specs.Findings.{got_known, is_commit}
use Rattle.definitions.specs.Held.{commit_of, digest_of, first_commit, known_to}
use Rattle.definitions.specs.Lists.{first_of}
use Rattle.definitions.specs.Logs.{digest_eq, got_in, got_of, move_shown, turn_of}
use Rattle.definitions.specs.Moves.{is_legal, next_track, start_track}
use Rattle.definitions.specs.World.{Game, players_of}
use Rattle.definition_laws.specs.Members.{Has}
use Rattle.definition_laws.proofs.Alike.{digest_eq_same}
use Rattle.definition_laws.proofs.Listing.{slice_get_last}
use Rattle.definition_laws.proofs.Members.{Has_flat_map, Has_slice_get, flat_map_Has, slice_get_Has}
use Rattle.definition_laws.proofs.Knowing.{known_to_orderly}
use Rattle.definition_laws.proofs.Nexts.{some_at}
use Rattle.definition_laws.proofs.Order.{IsOrderly}
use Rattle.grid_world.specs.Sessions.{IsSession}
use Rattle.grid_world.specs.declared.streams.Stream.{Stream}
use Rattle.frame_index.specs.Openings.{opening_at}
use Rattle.grid_world.specs.Streams.{next_of}
use Rattle.frame_index.specs.Streams.{IsReadFrom}
use Rattle.frame_index.proofs.StreamsShown.{held_there, read_from, still_commit, still_due, stream_from, stream_none, there_commit, there_due}
use Rattle.frame_index.specs.declared.common.Common.{Common}
use Rattle.frame_index.specs.declared.kept.KeptFrame.{KeptFrame}
use Rattle.frame_index.specs.declared.seen.Seen.{Seen}
use Rattle.frame_index.specs.Frames.{IndexState, IsIndex, kept_of}
use Rattle.frame_index.specs.Heads.{Ends, Stands}
use Rattle.frame_index.specs.Kept.{seen_of, seen_with}
use Rattle.frame_index.specs.Plain.{AreCommon, AreLeft, AreOfFirst, CommitIsRead, HasCome, IsCommon, IsCommonAt, IsPlain, LeadsTo, NoneGoesOn, RevealIsRead, commit_spots, is_among, is_in, move_in, move_of, reveal_spots}
use Rattle.frame_index.proofs.Come.{ended_count, resolves}
use Rattle.frame_index.proofs.Growing.{any_has, has_kept, kept_has}
use Rattle.frame_index.proofs.Plainly.{got_entry, move_is, resolved_move}

-- the first that a function gives
first_of_has : {X Y : Type 0} (g : X → Option Y) (xs : List X) (y : Y) → first_of g xs ≡ Some y → (x : X) × Has xs x × (g x ≡ Some y)
first_of_has g [] y e = absurd (let none : None ≡ Some y = e in cc)
first_of_has {X} {Y} g (x ∷ xs) y e = go (g x) refl e (first_of_has g xs y)
  where
    go : (o : Option Y) → g x ≡ o → option_or o (first_of g xs) ≡ Some y → (first_of g xs ≡ Some y → (z : X) × Has xs z × (g z ≡ Some y)) → (z : X) × Has (x ∷ xs) z × (g z ≡ Some y)
    go None f e ih = let r = ih e in (r.0, inr r.1, r.2)
    go (Some z) f e ih = (x, inl refl, f ∙ e)

first_of_none : {X Y : Type 0} (g : X → Option Y) (xs : List X) → ((x : X) (y : Y) → Has xs x → g x ≡ Some y → ⊥) → first_of g xs ≡ None
first_of_none {X} {Y} g xs never = go (first_of g xs) refl
  where
    go : (o : Option Y) → first_of g xs ≡ o → o ≡ None
    go None e = refl
    go (Some y) e = let r = first_of_has g xs y e in absurd (never r.0 y r.1 r.2)

first_of_some : {X Y : Type 0} (g : X → Option Y) (xs : List X) (x : X) (y : Y) → Has xs x → g x ≡ Some y → (z : Y) × (first_of g xs ≡ Some z)
first_of_some g [] x y m e = absurd m
first_of_some {X} {Y} g (x ∷ xs) z y m e = go (g x) refl m (λ n. first_of_some g xs z y n e)
  where
    go : (o : Option Y) → g x ≡ o → Has (x ∷ xs) z → (Has xs z → (w : Y) × (first_of g xs ≡ Some w)) → (w : Y) × (option_or o (first_of g xs) ≡ Some w)
    go (Some w) f m ih = (w, refl)
    go None f (inl same) ih = absurd (let none : None ≡ Some y = sym f ∙ ap g same ∙ e in cc)
    go None f (inr m) ih = ih m

-- the spots of a kind
in_any : (spots : List Spot) (x : Spot) (i : ℕ) → Has spots x → x.log ≡ i → is_in spots i ≡ true
in_any [] x i m log = absurd m
in_any (s ∷ spots) x i m log = go (s.log == i) refl m (λ n. in_any spots x i n log)
  where
    go : (b : Bool) → (s.log == i) ≡ b → Has (s ∷ spots) x → (Has spots x → is_in spots i ≡ true) → list_any (λ y. y.log == i) (s ∷ spots) ≡ true
    go true e m ih = rw e refl
    go false e (inl same) ih = absurd (false≢true (sym e ∙ eq-eqb s.log i (ap (λ (y : Spot). y.log) same ∙ log)))
    go false e (inr m) ih = rw e (ih m)

commits_among : (ks : List KeptFrame) (s : Spot) → Has (commit_spots ks) s → (k : KeptFrame) × Has ks k × (is_commit k.frame ≡ true) × Has k.spots.items s
commits_among [] s m = absurd m
commits_among (k ∷ ks) s m = go (is_commit k.frame) refl m (commits_among ks s)
  where
    Found : List KeptFrame → Type 0
    Found xs = (l : KeptFrame) × Has xs l × (is_commit l.frame ≡ true) × Has l.spots.items s

    go : (b : Bool) → is_commit k.frame ≡ b → Has (if b then k.spots.items else commit_spots ks) s → (Has (commit_spots ks) s → Found ks) → Found (k ∷ ks)
    go true e m ih = (k, inl refl, e, m)
    go false e m ih = let r = ih m in (r.0, inr r.1, r.2, r.3)

reveals_among : (ks : List KeptFrame) (s : Spot) → Has (reveal_spots ks) s → (k : KeptFrame) × Has ks k × (is_commit k.frame ≡ false) × Has k.spots.items s
reveals_among [] s m = absurd m
reveals_among (k ∷ ks) s m = go (is_commit k.frame) refl m (reveals_among ks s)
  where
    Found : List KeptFrame → Type 0
    Found xs = (l : KeptFrame) × Has xs l × (is_commit l.frame ≡ false) × Has l.spots.items s

    go : (b : Bool) → is_commit k.frame ≡ b → Has (if b then reveal_spots ks else k.spots.items) s → (Has (reveal_spots ks) s → Found ks) → Found (k ∷ ks)
    go false e m ih = (k, inl refl, e, m)
    go true e m ih = let r = ih m in (r.0, inr r.1, r.2, r.3)

commit_among : (ks : List KeptFrame) → IsPlain ks → (k : KeptFrame) (s : Spot) → Has ks k → is_commit k.frame ≡ true → Has k.spots.items s → Has (commit_spots ks) s
commit_among [] plain k s m c h = absurd m
commit_among (y ∷ ys) plain k s m c h = go (is_commit y.frame) refl m (λ n. commit_among ys (λ a b p r. plain a b (inr p) (inr r)) k s n c h)
  where
    go : (b : Bool) → is_commit y.frame ≡ b → Has (y ∷ ys) k → (Has ys k → Has (commit_spots ys) s) → Has (if b then y.spots.items else commit_spots ys) s
    go true e m ih = subst (λ (z : KeptFrame). Has z.spots.items s) (sym ((plain y k (inl refl) m).1 (e ∙ sym c))) h
    go false e (inl same) ih = absurd (false≢true (sym e ∙ ap (λ (z : KeptFrame). is_commit z.frame) same ∙ c))
    go false e (inr m) ih = ih m

reveal_among : (ks : List KeptFrame) → IsPlain ks → (k : KeptFrame) (s : Spot) → Has ks k → is_commit k.frame ≡ false → Has k.spots.items s → Has (reveal_spots ks) s
reveal_among [] plain k s m c h = absurd m
reveal_among (y ∷ ys) plain k s m c h = go (is_commit y.frame) refl m (λ n. reveal_among ys (λ a b p r. plain a b (inr p) (inr r)) k s n c h)
  where
    go : (b : Bool) → is_commit y.frame ≡ b → Has (y ∷ ys) k → (Has ys k → Has (reveal_spots ys) s) → Has (if b then reveal_spots ys else y.spots.items) s
    go false e m ih = subst (λ (z : KeptFrame). Has z.spots.items s) (sym ((plain y k (inl refl) m).1 (e ∙ sym c))) h
    go true e (inl same) ih = absurd (false≢true (sym c ∙ ap (λ (z : KeptFrame). is_commit z.frame) (sym same) ∙ e))
    go true e (inr m) ih = ih m

module _ (game : Game) (q t : ℕ) (logs : List (List Entry)) (index : IndexState) (w : IsIndex game logs index) where
  abbrev Ks : List KeptFrame
  Ks = kept_of index q t

  -- a kept frame with a spot in the log was got by it
  pub got_there : (k : KeptFrame) (s : Spot) → Has Ks k → Has k.spots.items s → (h : List Entry) × (slice_get logs s.log ≡ Some h) × Has (got_of q h) k.frame × (turn_of k.frame ≡ t)
  unfolding got_of
  got_there k s m n =
      let v = (w.stands q t).within (seen_with k.frame k.digest s) (Has_flat_map seen_of Ks k (seen_with k.frame k.digest s) m (kept_has k s n)) in
      (v.log, v.there, Has_flat_map (got_in q) v.log (Got q k.frame) k.frame (slice_get_Has v.log s.entry (Got q k.frame) v.got) got, v.turn)
    where
      got : Has (got_in q (Got q k.frame)) k.frame
      got = (let e = eq-eqb q q refl in rw e (inl refl))

  module _ (i : ℕ) (h : List Entry) (there : slice_get logs i ≡ Some h) where
    got_here : (k : KeptFrame) (s : Spot) → Has Ks k → Has k.spots.items s → s.log ≡ i → Has (got_of q h) k.frame × (turn_of k.frame ≡ t)
    got_here k s m n log =
        let r = got_there k s m n in
        let both : Some r.0 ≡ Some h = sym r.1 ∙ ap (slice_get logs) log ∙ there in
        let same : r.0 ≡ h = cc in
        (subst (λ (g : List Entry). Has (got_of q g) k.frame) same r.2, r.3)

    -- a frame of the turn that the log got is kept with a spot in it
    kept_here : (f : TurnFrame) → Has (got_of q h) f → turn_of f ≡ t → (k : KeptFrame) × (s : Spot) × Has Ks k × Has k.spots.items s × (s.log ≡ i) × (k.frame ≡ f) × (k.digest ≡ digest_of game f)
    unfolding got_of
    kept_here f m turn =
        let e = flat_map_Has (got_in q) h f m in
        let at = entry_at e.0 e.1 e.2 in
        let r = (w.stands q t).firsts (record { spot = record { log = i; entry = at.0 }; frame = f }) (record { log = h; there = there; got = at.1; turn = turn }) in
        let k = flat_map_Has seen_of Ks r.0 r.1 in
        let x = has_kept k.0 r.0 k.2 in
        let frame : k.0.frame ≡ f = ap (λ (y : Seen). y.frame) x.2 ∙ r.2.frame in
        (k.0, x.0, k.1, x.1, ap (λ (y : Seen). y.spot.log) x.2 ∙ r.2.log, frame, (w.own q t k.0 k.1).2 ∙ ap (digest_of game) frame)
      where
        entry_at : (e : Entry) → Has h e → Has (got_in q e) f → (n : ℕ) × (slice_get h n ≡ Some (Got q f))
        entry_at e m x = let at = Has_slice_get h e m in (at.0, at.1 ∙ ap (λ (z : Entry). Some z) (got_entry q f e x))

    module _ (plain : IsPlain Ks) where
      commit_is : (f : TurnFrame) (d : Digest) → commit_of t f ≡ Some d → (is_commit f ≡ true) × (turn_of f ≡ t) × (digest_of game f ≡ d)
      unfolding digest_of
      commit_is (Reveal p u m n) d e = absurd (let none : None ≡ Some d = e in cc)
      commit_is (Commit p u c) d e = go (u == t) refl e
        where
          go : (b : Bool) → (u == t) ≡ b → (if b then Some c else None) ≡ Some d → (is_commit (Commit p u c) ≡ true) × (u ≡ t) × (c ≡ d)
          go true x e = (refl, eqb-true u t x, cc)
          go false x e = absurd (let none : None ≡ Some d = e in cc)

      commit_there : (f : TurnFrame) → is_commit f ≡ true → turn_of f ≡ t → (d : Digest) × (commit_of t f ≡ Some d)
      commit_there (Reveal p u m n) c e = absurd (false≢true c)
      commit_there (Commit p u d) c e = (d, ap (λ (b : Bool). if b then Some d else None) (eq-eqb u t e))

      -- the log commits the turn where the commitment that is kept stands in it
      pub committed : is_in (commit_spots Ks) i ≡ true → (d : Digest) × (first_commit (got_of q h) t ≡ Some d)
      committed e =
          let x = any_has (commit_spots Ks) i e in
          let k = commits_among Ks x.0 x.1 in
          let g = got_here k.0 x.0 k.1 k.3 x.2 in
          let d = commit_there k.0.frame k.2 g.1 in
          first_of_some (commit_of t) (got_of q h) k.0.frame d.0 g.0 d.1

      pub uncommitted : is_in (commit_spots Ks) i ≡ false → first_commit (got_of q h) t ≡ None
      uncommitted e = first_of_none (commit_of t) (got_of q h) (λ f d m c.
          let is = commit_is f d c in
          let k = kept_here f m is.1 in
          false≢true (sym e ∙ in_any (commit_spots Ks) k.1 i (commit_among Ks plain k.0 k.1 k.2 (ap is_commit k.5 ∙ is.0) k.3) k.4))

      opening_is : (track : Track) (d : Digest) (f : TurnFrame) (m : Move) → opening_at game q track d t f ≡ Some m → (is_commit f ≡ false) × (turn_of f ≡ t) × (move_shown f ≡ Some m)
      opening_is track d (Commit p u c) m e = absurd (let none : None ≡ Some m = e in cc)
      opening_is track d (Reveal p u n o) m e = go (u == t) refl (digest_eq (digest_of game (Reveal p u n o)) d) (is_legal game q track n) e
        where
          go : (a : Bool) → (u == t) ≡ a → (b c : Bool) → (if a && b && c then Some n else None) ≡ Some m → (is_commit (Reveal p u n o) ≡ false) × (u ≡ t) × (Some n ≡ Some m)
          go true x true true e = (refl, eqb-true u t x, e)
          go true x true false e = absurd (let none : None ≡ Some m = e in cc)
          go true x false c e = absurd (let none : None ≡ Some m = e in cc)
          go false x b c e = absurd (let none : None ≡ Some m = e in cc)

      -- the digest that the log holds of the turn is that of all that is kept of it
      held_kept : (d : Digest) → first_commit (got_of q h) t ≡ Some d → (k : KeptFrame) → Has Ks k → k.digest ≡ d
      held_kept d first k m =
          let f = first_of_has (commit_of t) (got_of q h) d first in
          let is = commit_is f.0 d f.2 in
          let c = kept_here f.0 f.1 is.1 in
          (plain k c.0 m c.2).0 ∙ c.6 ∙ is.2

      pub unrevealed : (track : Track) (d : Digest) → is_in (reveal_spots Ks) i ≡ false → first_of (opening_at game q track d t) (got_of q h) ≡ None
      unrevealed track d e = first_of_none (opening_at game q track d t) (got_of q h) (λ f m x o.
          let is = opening_is track d f m o in
          let k = kept_here f x is.1 in
          false≢true (sym e ∙ in_any (reveal_spots Ks) k.1 i (reveal_among Ks plain k.0 k.1 k.2 (ap is_commit k.5 ∙ is.0) k.3) k.4))

      pub revealed : (track next : Track) (d : Digest) → first_commit (got_of q h) t ≡ Some d → is_in (reveal_spots Ks) i ≡ true → LeadsTo game q track (move_in Ks) (Some next) →
          Some next ≡ option_map (next_track game track) (first_of (opening_at game q track d t) (got_of q h))
      revealed track next d first e led =
          let x = any_has (reveal_spots Ks) i e in
          let k = reveals_among Ks x.0 x.1 in
          let g = got_here k.0 x.0 k.1 k.3 x.2 in
          go k.0.frame k.0 refl k.1 g.0 g.1 k.2
        where
          go : (f : TurnFrame) → (k : KeptFrame) → k.frame ≡ f → Has Ks k → Has (got_of q h) k.frame → turn_of k.frame ≡ t → is_commit k.frame ≡ false →
              Some next ≡ option_map (next_track game track) (first_of (opening_at game q track d t) (got_of q h))
          go (Commit p u c) k same m there turn reveal = absurd (false≢true (sym reveal ∙ ap is_commit same))
          go (Reveal p u mv n) k same m there turn reveal =
              let is = move_is Ks plain k mv m (ap move_shown same) in
              let to : LeadsTo game q track (Some mv) (Some next) = subst (λ (o : Option Move). LeadsTo game q track o (Some next)) is led in
              let opens : opening_at game q track d t (Reveal p u mv n) ≡ Some mv = opening u (sym (ap turn_of same) ∙ turn)
              (ap (λ (y : Digest). digest_eq y d) (sym (ap (digest_of game) same) ∙ sym (w.own q t k m).2 ∙ held_kept d first k m) ∙ digest_eq_same d) to.legal in
              let some = first_of_some (opening_at game q track d t) (got_of q h) (Reveal p u mv n) mv (subst (λ (f : TurnFrame). Has (got_of q h) f) same there) opens in
              let found = first_of_has (opening_at game q track d t) (got_of q h) some.0 some.1 in
              let other = opening_is track d found.0 some.0 found.2 in
              let kept = kept_here found.0 found.1 other.1 in
              let again = move_is Ks plain kept.0 some.0 kept.2 (ap move_shown kept.5 ∙ other.2) in
              let one : Some some.0 ≡ Some mv = sym again ∙ is in
              ap (λ (y : Track). Some y) to.leads ∙ sym (ap (option_map (next_track game track)) (some.1 ∙ one))
            where
              opening : (u : ℕ) → u ≡ t → digest_eq (digest_of game (Reveal p u mv n)) d ≡ true → is_legal game q track mv ≡ true → opening_at game q track d t (Reveal p u mv n) ≡ Some mv
              opening u turn eq legal = let x = eq-eqb u t turn in rw (x, eq, legal) refl

-- what a log has come to, by how many commitments and reveals are before the place
abbrev ComeBy : Game → ℕ → List TurnFrame → (commits resolved most : ℕ) → Track → Bool → Type 0
ComeBy game q fs a b most track true = IsReadFrom game q fs (record { commits = a; resolved = b; track = track })
ComeBy game q fs a b most track false = (s : Stream) × IsReadFrom game q fs s × Ends game q fs s × (s.resolved ≤ most)

-- a place has so many commitments and reveals before it, and no other numbers
no_less : (game : Game) (a b c d : ℕ) → IsOrderly game a b → IsOrderly game c d → c + d ≡ a + b → a ≤ c
no_less game a b c d ab cd same = go cd.least
  where
    go : (d ≡ 0) ⊎ (min (d + game.ahead) (game.turns + 1) ≤ c + 1) → a ≤ c
    go (inl none) = omega arith
    go (inr some) =
        let within = ab.within in
        elim (cases_lt c a) [
          | inl less ↦ absurd (omega arith)
          | inr le ↦ le
        ]

numbers_once : (game : Game) (a b c d : ℕ) → IsOrderly game a b → IsOrderly game c d → c + d ≡ a + b → (c ≡ a) × (d ≡ b)
numbers_once game a b c d ab cd same =
    let one = no_less game a b c d ab cd same in
    let other = no_less game c d a b cd ab (sym same) in
    (omega arith, omega arith)

by_numbers : (game : Game) (q : ℕ) (fs : List TurnFrame) (a b most : ℕ) (track : Track) (x : Bool) → IsOrderly game a b → HasCome game q fs (a + b) most track x → ComeBy game q fs a b most track x
by_numbers game q fs a b most track true order come =
    let s = come.0 in
    let commits = ap (λ (r : Stream). r.commits) come.1 in
    let resolved = ap (λ (r : Stream). r.resolved) come.1 in
    let here = come.2 in
    let once = numbers_once game a b _ _ order (known_to_orderly game q fs (a + b)) (omega arith) in
    read_from game q (a + b) fs (record { commits = a; resolved = b; track = track })
    (sym (stream_from s (record { commits = a; resolved = b; track = track }) (commits ∙ once.0) (resolved ∙ once.1) come.3) ∙ come.1)
by_numbers game q fs a b most track false order come = come

by_place : (game : Game) (q : ℕ) (fs : List TurnFrame) (a b most : ℕ) (track : Track) (x : Bool) → ComeBy game q fs a b most track x → HasCome game q fs (a + b) most track x
by_place game q fs a b most track true read = (record { commits = a; resolved = b; track = track }, read, refl, refl)
by_place game q fs a b most track false come = come

-- one place further, in one log
module _ (game : Game) (q : ℕ) (logs : List (List Entry)) (index : IndexState) (w : IsIndex game logs index) (i : ℕ) (h : List Entry) (there : slice_get logs i ≡ Some h) where
  come_commit : (a b : ℕ) (most : ℕ) (track : Track) → IsPlain (kept_of index q a) → most ≤ b → a < min (b + game.ahead) game.turns → (x y : Bool) →
      is_in (commit_spots (kept_of index q a)) i ≡ y → ComeBy game q (got_of q h) a b most track x →
      ComeBy game q (got_of q h) (a + 1) b b track (x && y)
  come_commit a b most track plain le next true true e read =
      let d = committed game q a logs index w i h there plain e in
      there_commit game q (got_of q h) (record { commits = a; resolved = b; track = track }) d.0 read next (sym d.1)
  come_commit a b most track plain le next true false e read =
      let s : Stream = record { commits = a; resolved = b; track = track } in
      (s, read, still_commit game q (got_of q h) s read next (sym (uncommitted game q a logs index w i h there plain e)), omega arith)
  come_commit a b most track plain le next false c e come = (come.0, come.1, come.2, (let l = come.3 in omega (arith, l, le)))

  come_reveal : (a b : ℕ) (most : ℕ) (track new : Track) → IsSession game → q < players_of game → IsPlain (kept_of index q b) → LeadsTo game q track (move_in (kept_of index q b)) (Some new) →
      most ≤ b → b < a → (a < min (b + game.ahead) game.turns → ⊥) → (x y : Bool) → is_in (reveal_spots (kept_of index q b)) i ≡ y →
      ComeBy game q (got_of q h) a b most track x → ComeBy game q (got_of q h) a (b + 1) b new (x && y)
  come_reveal a b most track new is player plain led le lt next true c e read = go c e
    where
      s : Stream
      s = record { commits = a; resolved = b; track = track }

      known : s.commits ≡ length (known_to game q (got_of q h) (next_of s)).digests
      known = ap (λ (r : Stream). r.commits) read

      held : (d : Digest) × (slice_get (known_to game q (got_of q h) (next_of s)).digests b ≡ Some d)
      held = some_at (known_to game q (got_of q h) (next_of s)).digests b (let k = known in omega (arith, k, lt))

      first : first_commit (got_of q h) b ≡ Some held.0
      first = held_there game q b (got_of q h) s read lt ∙ held.1

      go : (c : Bool) → is_in (reveal_spots (kept_of index q b)) i ≡ c → ComeBy game q (got_of q h) a (b + 1) b new (true && c)
      go true e = there_due game q (got_of q h) s held.0 new is player read next (sym held.1) (revealed game q b logs index w i h there plain track new held.0 first e led)
      go false e =
          (s, read, still_due game q (got_of q h) s held.0 is player read next (sym held.1) (sym (ap (option_map (next_track game track)) (unrevealed game q b logs index w i h there plain track held.0 e))), omega arith)
  come_reveal a b most track new is player plain led le lt next false c e come = (come.0, come.1, come.2, (let l = come.3 in omega (arith, l, le)))

pub common_at : (game : Game) (q : ℕ) (logs : List (List Entry)) (first : List Bool) (a b most : ℕ) (x : Common) → a ≡ b → IsCommon game q logs first a most x → IsCommon game q logs first b most x
common_at game q logs first a b most x e is = subst (λ (n : ℕ). IsCommon game q logs first n most x) e is

-- one place further, in all logs
module _ (game : Game) (q : ℕ) (logs : List (List Entry)) (index : IndexState) (w : IsIndex game logs index) (first : List Bool) where
  left_first : (spots : List Spot) (old new : List Bool) → AreLeft old spots new → AreOfFirst first old → AreOfFirst first new
  left_first spots old new left was i e = was i (and_parts (is_among old i) (is_in spots i) (sym (left i) ∙ e)).0

  pub common_commit : (a b most : ℕ) (old new : Common) → CommitIsRead (kept_of index q a) old new → most ≤ b → a < min (b + game.ahead) game.turns →
      IsOrderly game a b → IsCommon game q logs first (a + b) most old → IsCommon game q logs first (a + 1 + b) b new
  common_commit a b most old new read le lt order is = record {
    come = λ i h there among.
        subst (λ (x : Bool). HasCome game q (got_of q h) (a + 1 + b) b new.track x) (sym (read.left i))
        (subst (λ (tr : Track). HasCome game q (got_of q h) (a + 1 + b) b tr (is_among old.chosen i && is_in (commit_spots (kept_of index q a)) i)) (sym read.track)
        (by_place game q (got_of q h) (a + 1) b b old.track (is_among old.chosen i && is_in (commit_spots (kept_of index q a)) i)
        (come_commit game q logs index w i h there a b most old.track read.plain le lt (is_among old.chosen i) (is_in (commit_spots (kept_of index q a)) i) refl
        (by_numbers game q (got_of q h) a b most old.track (is_among old.chosen i) order (is.come i h there among)))));
    of_first = left_first (commit_spots (kept_of index q a)) old.chosen new.chosen read.left is.of_first;
  }

  pub common_reveal : (a t most : ℕ) (old new : Common) → IsSession game → q < players_of game → RevealIsRead game q (kept_of index q t) old new → most ≤ t → t < a → (a < min (t + game.ahead) game.turns → ⊥) →
      IsOrderly game a t → IsCommon game q logs first (a + t) most old → IsCommon game q logs first (a + (t + 1)) t new
  common_reveal a t most old new session player read le lt next order is = record {
    come = λ i h there among.
        subst (λ (x : Bool). HasCome game q (got_of q h) (a + (t + 1)) t new.track x) (sym (read.left i))
        (by_place game q (got_of q h) a (t + 1) t new.track (is_among old.chosen i && is_in (reveal_spots (kept_of index q t)) i)
        (come_reveal game q logs index w i h there a t most old.track new.track session player read.plain read.led le lt next
        (is_among old.chosen i) (is_in (reveal_spots (kept_of index q t)) i) refl (by_numbers game q (got_of q h) a t most old.track (is_among old.chosen i) order (is.come i h there among))));
    of_first = left_first (reveal_spots (kept_of index q t)) old.chosen new.chosen read.left is.of_first;
  }

  -- a wider bound
  pub common_most : (f : ℕ) (m n : ℕ) (c : Common) → m ≤ n → IsCommon game q logs first f m c → IsCommon game q logs first f n c
  common_most f m n c le is = record { come = λ i h there among. wide i h (is_among c.chosen i) (is.come i h there among); of_first = is.of_first }
    where
      wide : (i : ℕ) (h : List Entry) (b : Bool) → HasCome game q (got_of q h) f m c.track b → HasCome game q (got_of q h) f n c.track b
      wide i h true read = read
      wide i h false come = (come.0, come.1, come.2, (let l = come.3 in omega (arith, l, le)))

  -- where no log is left, none resolves the turn
  pub none_goes_on : (f : ℕ) (t : ℕ) (c : Common) → IsSession game → q < players_of game → ((i : ℕ) → is_among c.chosen i ≡ false) → IsCommon game q logs first f t c → NoneGoesOn game q logs first t
  none_goes_on f t c session player none is u le i h there among =
      let come : HasCome game q (got_of q h) f t c.track false = subst (HasCome game q (got_of q h) f t c.track) (none i) (is.come i h there among) in
      let s = come.0 in
      slice_get_past (got_known game q h).moves u (let n = ended_count game q h (next_of s) s session player come.1 come.2 in let m = come.3 in omega (arith, n, m, le))

  -- the logs that are left resolve the turn by the move that is kept
  pub common_here : (a t most i : ℕ) (old new : Common) (m : Move) → IsSession game → q < players_of game → RevealIsRead game q (kept_of index q t) old new → is_among new.chosen i ≡ true → move_in (kept_of index q t) ≡ Some m →
      IsOrderly game a (t + 1) → IsCommon game q logs first (a + (t + 1)) most new → IsCommonAt game q logs first t (Some m)
  common_here a t most i old new m session player read among shows order is = record {
    each = λ j g there chosen. by j g there (move_of game q g t) refl;
    some = λ n e. one n e;
  }
    where
      by : (j : ℕ) (g : List Entry) → slice_get logs j ≡ Some g → (o : Option Move) → move_of game q g t ≡ o → (move_of game q g t ≡ None) ⊎ (move_of game q g t ≡ Some m)
      by j g there None e = inl e
      by j g there (Some n) e = inr (e ∙ sym (resolved_move game q t logs index w read.plain j g n there e) ∙ shows)

      one : (n : Move) → Some m ≡ Some n → (j : ℕ) × (g : List Entry) × (slice_get logs j ≡ Some g) × (is_among first j ≡ true) × (move_of game q g t ≡ Some n)
      one n e =
          let parts = and_parts (is_among old.chosen i) (is_in (reveal_spots (kept_of index q t)) i) (sym (read.left i) ∙ among) in
          let x = any_has (reveal_spots (kept_of index q t)) i parts.1 in
          let k = reveals_among (kept_of index q t) x.0 x.1 in
          let r = got_there game q t logs index w k.0 x.0 k.1 k.3 in
          let there : slice_get logs i ≡ Some r.0 = ap (slice_get logs) (sym x.2) ∙ r.1 in
          let come : HasCome game q (got_of q r.0) (a + (t + 1)) most new.track true =
          subst (HasCome game q (got_of q r.0) (a + (t + 1)) most new.track) among (is.come i r.0 there (is.of_first i among)) in
          let s : Stream = record { commits = a; resolved = t + 1; track = new.track } in
          let stands : Stands game q (got_of q r.0) (a + (t + 1)) s = by_numbers game q (got_of q r.0) a (t + 1) most new.track true order come in
          let long = resolves game q r.0 (a + (t + 1)) s session player stands in
          let mv = some_at (got_known game q r.0).moves t (omega (arith, long)) in
          (i, r.0, there, is.of_first i among, mv.1 ∙ sym (resolved_move game q t logs index w read.plain i r.0 mv.0 there mv.1) ∙ shows ∙ e)

-- of no place
pub common_none : (game : Game) (q : ℕ) (logs : List (List Entry)) (first : List Bool) (track : Track) → track ≡ start_track game q →
    IsCommon game q logs first 0 0 (record { track = track; chosen = first })
common_none game q logs first track e = record { come = λ i h there among. by i h (is_among first i) among; of_first = λ i h. h }
  where
    by : (i : ℕ) (h : List Entry) (b : Bool) → b ≡ true → HasCome game q (got_of q h) 0 0 track b
    by i h true e' = (record { commits = 0; resolved = 0; track = track }, stream_none game q (got_of q h) track e, refl, refl)
    by i h false e' = absurd (false≢true e')

-- the turns before one
abbrev pub AreCommonTo : Game → ℕ → List (List Entry) → List Bool → ℕ → List Move → Type 0
AreCommonTo game q logs chosen n moves = (t : ℕ) → t < n → IsCommonAt game q logs chosen t (slice_get moves t)

module _ (game : Game) (q : ℕ) (logs : List (List Entry)) (first : List Bool) where
  pub more_common : (t : ℕ) (old new : List Move) (m : Move) → length old ≡ t → new ≡ old ++ m ∷ [] → IsCommonAt game q logs first t (Some m) → AreCommonTo game q logs first t old → AreCommonTo game q logs first (t + 1) new
  more_common t old new m long is here before u lt = elim (cases_lt u t) [
    | inl less ↦ subst (IsCommonAt game q logs first u) (sym (ap (λ (ms : List Move). slice_get ms u) is ∙ front old u (omega (arith, less, long)))) (before u less)
    | inr ge ↦
        let same : u ≡ t = omega (arith, lt, ge) in
        subst (IsCommonAt game q logs first u) (sym (ap (λ (ms : List Move). slice_get ms u) is ∙ ap (slice_get (old ++ m ∷ [])) (same ∙ sym long) ∙ slice_get_last old m))
        (subst (λ (n : ℕ). IsCommonAt game q logs first n (Some m)) (sym same) here)
  ]
    where
      front : (xs : List Move) (n : ℕ) → n < length xs → slice_get (xs ++ m ∷ []) n ≡ slice_get xs n
      front [] n lt = absurd (omega (arith, lt))
      front (x ∷ xs) zero lt = refl
      front (x ∷ xs) (suc n) lt = front xs n (omega (arith, lt))

  pub all_common : (t : ℕ) (moves : List Move) → length moves ≡ t → NoneGoesOn game q logs first t → AreCommonTo game q logs first t moves → AreCommon game q logs first moves
  all_common t moves long none before u lt = elim (cases_lt u t) [
    | inl less ↦ before u less
    | inr ge ↦ record {
      each = λ i h there among. inl (none u ge i h there among);
      some = λ m e. absurd (let past : slice_get moves u ≡ None = slice_get_past moves u (omega (arith, long, ge)) in let no : None ≡ Some m = sym past ∙ e in cc);
    }
  ]
