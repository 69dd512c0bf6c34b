-- Sealing: the frames of a finding's exhibit have seals, by which a judge believes them.
use Rattle.std.proofs.Common.{◌≡◌, ℕ, ◌+◌, true, false, Bool, List, [], ◌∷◌, ◌++◌, Option, None, Some, refl, sym, ap, ◌∙◌, subst, slice_get, take, inl, inr}
use Rattle.std.specs.Prelude.{filter_map, map, if◌then◌else◌}
use Rattle.std.specs.Option.{option_or}
use Rattle.std.proofs.lemmas.Bool.{and_from, false≢true}
use Rattle.definitions.specs.declared.findings.Finding.{Finding}
use Rattle.definitions.specs.declared.frames.TurnFrame.{TurnFrame}
use Rattle.definitions.specs.declared.logs.Entry.{Entry}
use Rattle.definitions.specs.declared.logs.Entry.TheVariants.{Got}
use Rattle.definitions.specs.Logs.{frame_eq, player_of}
use Rattle.definition_laws.proofs.Alike.{frame_eq_same, frame_eq_true}
use Rattle.definitions.specs.Lists.{EachIs}
use Rattle.definitions.specs.World.{Game}
use Rattle.definitions.specs.Exhibits.{Shows}
use Rattle.definitions.specs.Findings.{findings}
use Rattle.definition_laws.specs.Members.{Has}
use Rattle.definition_laws.proofs.Listing.{take_more}
use Rattle.evidence.specs.Laws.{FindingsAreShown, FramesOfFindingsStand, StandsIn}
use Rattle.evidence.specs.Showing.{frames_of_finding}
use Rattle.auditor.specs.Exhibits.{IsExhibitOf}
use Rattle.sealed_evidence.specs.declared.sealed.SealedExhibit.{SealedExhibit}
use Rattle.sealed_evidence.specs.Judging.{are_sealed, is_sealed, shows_sealed}
use Rattle.sealed_files.specs.SealedFrames.{SealedFrame, sealed_in}
use Rattle.sealed_files.proofs.Begun.{HasValidSeal, all_valid}
use Rattle.accuser.specs.SealBooks.{Book, seal_among, seal_in}
use Rattle.accuser.specs.SealedReports.{SealedReported, found_in}
use Rattle.accuser.specs.Accused.{Accuses, all_sealed, as_entry, logs_of, seal_of, sealed_of}
use Rattle.accuser.proofs.Cleaned.{own_findings_shown}
use Rattle.accuser.proofs.Noted.{among_append, none_some}
use Rattle.accuser.proofs.Owned.{logs_own}

-- ---- the seals of frames, one by one

some_mapped : {X Y : Type 0} (g : X → Option Y) (x : X) (y : Y) (xs : List X) → g x ≡ Some y → filter_map g (x ∷ xs) ≡ y ∷ filter_map g xs
some_mapped g x y xs e = rw e refl

none_mapped : {X Y : Type 0} (g : X → Option Y) (x : X) (xs : List X) → g x ≡ None → filter_map g (x ∷ xs) ≡ filter_map g xs
none_mapped g x xs e = rw e refl

some_after : {X Y : Type 0} (g : X → Option Y) (xs : List X) (x : X) (y : Y) → g x ≡ Some y → filter_map g (xs ++ x ∷ []) ≡ filter_map g xs ++ y ∷ []
some_after g [] x y e = some_mapped g x y [] e
some_after {X} {Y} g (z ∷ xs) x y e = go (g z) refl (some_after g xs x y e)
  where
    go : (o : Option Y) → g z ≡ o → filter_map g (xs ++ x ∷ []) ≡ filter_map g xs ++ y ∷ [] → filter_map g (z ∷ (xs ++ x ∷ [])) ≡ filter_map g (z ∷ xs) ++ y ∷ []
    go None at ih = none_mapped g z (xs ++ x ∷ []) at ∙ ih ∙ ap (λ (ys : List Y). ys ++ y ∷ []) (sym (none_mapped g z xs at))
    go (Some w) at ih = some_mapped g z w (xs ++ x ∷ []) at ∙ ap (λ (ys : List Y). w ∷ ys) ih ∙ ap (λ (ys : List Y). ys ++ y ∷ []) (sym (some_mapped g z w xs at))

none_after : {X Y : Type 0} (g : X → Option Y) (xs : List X) (x : X) → g x ≡ None → filter_map g (xs ++ x ∷ []) ≡ filter_map g xs
none_after g [] x e = none_mapped g x [] e
none_after {X} {Y} g (z ∷ xs) x e = go (g z) refl (none_after g xs x e)
  where
    go : (o : Option Y) → g z ≡ o → filter_map g (xs ++ x ∷ []) ≡ filter_map g xs → filter_map g (z ∷ (xs ++ x ∷ [])) ≡ filter_map g (z ∷ xs)
    go None at ih = none_mapped g z (xs ++ x ∷ []) at ∙ ih ∙ sym (none_mapped g z xs at)
    go (Some w) at ih = some_mapped g z w (xs ++ x ∷ []) at ∙ ap (λ (ys : List Y). w ∷ ys) ih ∙ sym (some_mapped g z w xs at)

-- one frame more, of which there is a seal
pub seal_more : (b : Book) (fs : List TurnFrame) (i : ℕ) (f : TurnFrame) (s : List ℕ) → slice_get fs i ≡ Some f → seal_in b f ≡ Some s →
    filter_map (seal_in b) (take (i + 1) fs) ≡ filter_map (seal_in b) (take i fs) ++ s ∷ []
seal_more b fs i f s at e = ap (filter_map (seal_in b)) (take_more i fs f at) ∙ some_after (seal_in b) (take i fs) f s e

-- one of which there is none
pub no_seal_more : (b : Book) (fs : List TurnFrame) (i : ℕ) (f : TurnFrame) → slice_get fs i ≡ Some f → seal_in b f ≡ None →
    filter_map (seal_in b) (take (i + 1) fs) ≡ filter_map (seal_in b) (take i fs)
no_seal_more b fs i f at e = ap (filter_map (seal_in b)) (take_more i fs f at) ∙ none_after (seal_in b) (take i fs) f e

-- ---- each frame of a file has a valid seal among the files'

-- the seal is there and valid
pub record HasSeal (game : Game) (roots : List (List ℕ)) (f : TurnFrame) (o : Option (List ℕ)) : Type 0 where
  pub seal : List ℕ
  pub there : o ≡ Some seal
  pub valid : is_sealed game roots f seal ≡ true

or_else : (game : Game) (roots : List (List ℕ)) (f : TurnFrame) (o p : Option (List ℕ)) → ((s : List ℕ) → o ≡ Some s → is_sealed game roots f s ≡ true) → HasSeal game roots f p → HasSeal game roots f (option_or o p)
or_else game roots f None p valid has = has
or_else game roots f (Some s) p valid has = record { seal = s; there = refl; valid = valid s refl }

or_first : (game : Game) (roots : List (List ℕ)) (f : TurnFrame) (o p : Option (List ℕ)) → HasSeal game roots f o → HasSeal game roots f (option_or o p)
or_first game roots f None p has = absurd (none_some _ has.there)
or_first game roots f (Some s) p has = has

-- what is found among valid ones is valid
among_valid : (game : Game) (roots : List (List ℕ)) (ss : List SealedFrame) (f : TurnFrame) (s : List ℕ) → EachIs (HasValidSeal game roots) ss → seal_among ss f ≡ Some s → is_sealed game roots f s ≡ true
among_valid game roots [] f s all e = absurd (none_some s e)
among_valid game roots (x ∷ xs) f s all e = go (frame_eq x.frame f) refl e (λ there. among_valid game roots xs f s all.1 there)
  where
    go : (c : Bool) → frame_eq x.frame f ≡ c → (if c then Some x.seal else seal_among xs f) ≡ Some s → (seal_among xs f ≡ Some s → is_sealed game roots f s ≡ true) → is_sealed game roots f s ≡ true
    go true at e ih =
        subst (λ (g : TurnFrame). is_sealed game roots g s ≡ true) (frame_eq_true x.frame f at)
        (subst (λ (t : List ℕ). is_sealed game roots x.frame t ≡ true) (let one : x.seal ≡ s = cc in one) all.0)
    go false at e ih = ih e

got_frame : (p q : ℕ) (f g : TurnFrame) → Got p f ≡ Got q g → f ≡ g
got_frame p q f g e = cc

among_has : (game : Game) (roots : List (List ℕ)) (ss : List SealedFrame) (q : ℕ) (f : TurnFrame) → EachIs (HasValidSeal game roots) ss → Has (map as_entry ss) (Got q f) → HasSeal game roots f (seal_among ss f)
among_has game roots [] q f all m = absurd m
among_has game roots (x ∷ xs) q f all m = go (frame_eq x.frame f) refl m (λ n. among_has game roots xs q f all.1 n)
  where
    go : (c : Bool) → frame_eq x.frame f ≡ c → Has (map as_entry (x ∷ xs)) (Got q f) → (Has (map as_entry xs) (Got q f) → HasSeal game roots f (seal_among xs f)) → HasSeal game roots f (if c then Some x.seal else seal_among xs f)
    go true at m ih = record { seal = x.seal; there = refl; valid = subst (λ (g : TurnFrame). is_sealed game roots g x.seal ≡ true) (frame_eq_true x.frame f at) all.0 }
    go false at (inl e) ih =
        absurd (false≢true (sym at ∙ ap (λ (g : TurnFrame). frame_eq x.frame g) (sym (got_frame (player_of x.frame) q x.frame f e)) ∙ frame_eq_same x.frame))
    go false at (inr m) ih = ih m

pub files_have : (game : Game) (roots files : List (List ℕ)) (h : List Entry) (q : ℕ) (f : TurnFrame) → Has (logs_of game roots files) h → Has h (Got q f) → HasSeal game roots f (seal_of game roots files f)
files_have game roots [] h q f m got = absurd m
files_have game roots (bytes ∷ files) h q f m got =
    subst (HasSeal game roots f) (sym (among_append (sealed_in game roots bytes) (all_sealed game roots files) f)) (go m (λ n. files_have game roots files h q f n got))
  where
    go : Has (logs_of game roots (bytes ∷ files)) h → (Has (logs_of game roots files) h → HasSeal game roots f (seal_of game roots files f)) → HasSeal game roots f (option_or (seal_among (sealed_in game roots bytes) f) (seal_among (all_sealed game roots files) f))
    go (inl e) ih =
        or_first game roots f (seal_among (sealed_in game roots bytes) f) (seal_among (all_sealed game roots files) f)
        (among_has game roots (sealed_in game roots bytes) q f (all_valid game roots _ bytes) (subst (λ (es : List Entry). Has es (Got q f)) (sym e) got))
    go (inr m) ih =
        or_else game roots f (seal_among (sealed_in game roots bytes) f) (seal_among (all_sealed game roots files) f)
        (λ s e. among_valid game roots (sealed_in game roots bytes) f s (all_valid game roots _ bytes) e)
        (ih m)

-- ---- all of an exhibit

-- frames of which each has a seal are sealed by these
all_sealed_so : (game : Game) (roots files : List (List ℕ)) (fs : List TurnFrame) → EachIs (λ f. HasSeal game roots f (seal_of game roots files f)) fs →
    are_sealed game roots fs (filter_map (seal_of game roots files) fs) ≡ true
all_sealed_so game roots files [] all = refl
all_sealed_so game roots files (f ∷ fs) all =
    let own = all.0 in
    ap (are_sealed game roots (f ∷ fs)) (some_mapped (seal_of game roots files) f own.seal fs own.there) ∙ and_from _ _ own.valid (all_sealed_so game roots files fs all.1)

-- each that stands in the logs has one
all_held : (game : Game) (roots files : List (List ℕ)) (q : ℕ) (fs : List TurnFrame) → EachIs (StandsIn (logs_of game roots files) q) fs → EachIs (λ f. HasSeal game roots f (seal_of game roots files f)) fs
all_held game roots files q [] all = tt
all_held game roots files q (f ∷ fs) all = let at = all.0 in (files_have game roots files at.0 q f at.1 at.2, all_held game roots files q fs all.1)

-- a finding that the report lists is one of the logs
pub listed : (game : Game) (roots files : List (List ℕ)) (r : SealedReported) (f : Finding) → Accuses game roots files r → Has (found_in r) f → Has (findings game (logs_of game roots files)) f
listed game roots files r f accuses m = subst (λ (fs : List Finding). Has fs f) accuses.found m

pub sealed_shows : FindingsAreShown → FramesOfFindingsStand → (game : Game) (roots files : List (List ℕ)) (f : Finding) → Has (findings game (logs_of game roots files)) f → shows_sealed game roots (sealed_of game roots files f) ≡ true
sealed_shows shown stand game roots files f there =
    let logs : List (List Entry) = logs_of game roots files in
    let shows : Shows game f.player f.turn f.kind (frames_of_finding game logs f) = own_findings_shown shown game logs f (logs_own game roots files) there in
    and_from _ _ shows (all_sealed_so game roots files (frames_of_finding game logs f) (all_held game roots files f.player (frames_of_finding game logs f) (stand game logs f there)))

-- what a report gives is what shows the finding in its files
pub exactly : (game : Game) (roots files : List (List ℕ)) (r : SealedReported) (f : Finding) (x : SealedExhibit) → Accuses game roots files r →
    IsExhibitOf game (logs_of game roots files) f x.exhibit → x.seals ≡ filter_map (seal_in r.seals) x.exhibit.frames → x ≡ sealed_of game roots files f
exactly game roots files r f x accuses is seals =
    let each : (fs : List TurnFrame) → filter_map (seal_in r.seals) fs ≡ filter_map (seal_of game roots files) fs = λ fs. mapped_so (seal_in r.seals) (seal_of game roots files) accuses.exhibits.seals fs in
    let all = seals ∙ ap (filter_map (seal_in r.seals)) is.frames ∙ each (frames_of_finding game (logs_of game roots files) f) in
    λ i. record {
      exhibit = record { player = is.player i; turn = is.turn i; kind = is.kind i; frames = is.frames i };
      seals = all i;
    }
  where
    mapped_so : (g h : TurnFrame → Option (List ℕ)) → ((t : TurnFrame) → g t ≡ h t) → (fs : List TurnFrame) → filter_map g fs ≡ filter_map h fs
    mapped_so g h same [] = refl
    mapped_so g h same (t ∷ ts) = go (g t) (h t) refl refl (same t) (mapped_so g h same ts)
      where
        go : (o p : Option (List ℕ)) → g t ≡ o → h t ≡ p → o ≡ p → filter_map g ts ≡ filter_map h ts → filter_map g (t ∷ ts) ≡ filter_map h (t ∷ ts)
        go None None a b e ih = none_mapped g t ts a ∙ ih ∙ sym (none_mapped h t ts b)
        go None (Some y) a b e ih = absurd (none_some y e)
        go (Some y) None a b e ih = absurd (none_some y (sym e))
        go (Some y) (Some z) a b e ih = some_mapped g t y ts a ∙ ap (λ (ys : List (List ℕ)). y ∷ ys) ih ∙ ap (λ (s : List ℕ). s ∷ filter_map h ts) (let one : y ≡ z = cc in one) ∙ sym (some_mapped h t z ts b)
