-- Replied: a refusal and the answer to a frame that was taken in are together the answer to a frame.
use Rattle.std.proofs.Common.{◌≡◌, ℕ, ◌+◌, ◌-◌, List, [], ◌∷◌, ◌++◌, length, length-append, take, refl, Bool, true, false, sym, ◌∙◌, ap, arith, Option, Some, None}
use Rattle.std.specs.Prelude.{◌==◌, ◌&&◌, ◌↔◌, not, slice_get, if◌then◌else◌}
use Rattle.std.proofs.lemmas.Bool.{false≢true}
use Rattle.definitions.specs.declared.frames.TurnFrame.{TurnFrame}
use Rattle.definitions.specs.declared.logs.Entry.{Entry}
use Rattle.definitions.specs.declared.logs.Entry.TheVariants.{Got}
use Rattle.definitions.specs.declared.findings.Finding.{Finding}
use Rattle.definitions.specs.declared.answers.GotAnswer.{GotAnswer}
use Rattle.definitions.specs.declared.answers.GotAnswer.TheVariants.{Taken, Stashed, Same, Far, Foreign, Caught, Closed}
use Rattle.definitions.specs.World.{Game}
use Rattle.definitions.specs.Held.{next_place}
use Rattle.definitions.specs.Findings.{findings, is_clean}
use Rattle.definitions.specs.Answers.{got_answer, is_far, is_of_another, is_same, new_answer, place_of}
use Rattle.definitions.specs.Steps.{is_taken_in}
use Rattle.definitions.specs.Honest.{IsHonest}
use Rattle.definition_laws.proofs.ForPeers.{honest_push}
use Rattle.definition_laws.proofs.Listing.{take_front}
use Rattle.definition_laws.proofs.Stepping.{taken_allowed}
use Rattle.definition_laws.specs.First.{finding_of_log}
use Rattle.definition_laws.specs.Replies.{AreReplies, IsTaken, before_last, refusal}

-- the answer to a frame by the four tests, and the answer to a new one
by_tests : (c a r s : Bool) (new : GotAnswer) → GotAnswer
by_tests c a r s new = if not c then Closed else if not a then Foreign else if r then Far else if s then Same else new

refused_by : (c a r s : Bool) → Option GotAnswer
refused_by c a r s = if not c then Some Closed else if not a then Some Foreign else if r then Some Far else if s then Some Same else None

by_none : (c a r s : Bool) (new : GotAnswer) → refused_by c a r s ≡ None → by_tests c a r s new ≡ new
unfolding by_tests refused_by
by_none false a r s new h = absurd (cc)
by_none true false r s new h = absurd (cc)
by_none true true true s new h = absurd (cc)
by_none true true false true new h = absurd (cc)
by_none true true false false new h = refl

by_some : (c a r s : Bool) (new x : GotAnswer) → refused_by c a r s ≡ Some x → by_tests c a r s new ≡ x
unfolding by_tests refused_by
by_some false a r s new x h = cc
by_some true false r s new x h = cc
by_some true true true s new x h = cc
by_some true true false true new x h = cc
by_some true true false false new x h = absurd (cc)

by_joins : (c a r s : Bool) → (c && a && (not r && not s) ≡ true) ↔ (refused_by c a r s ≡ None)
unfolding refused_by
by_joins false a r s = (λ h. absurd (false≢true h), λ h. absurd (cc))
by_joins true false r s = (λ h. absurd (false≢true h), λ h. absurd (cc))
by_joins true true true s = (λ h. absurd (false≢true h), λ h. absurd (cc))
by_joins true true false true = (λ h. absurd (false≢true h), λ h. absurd (cc))
by_joins true true false false = (λ h. refl, λ h. refl)

-- a frame that is not refused is answered as a new one
answer_new : (game : Game) (me q : ℕ) (h : List Entry) (f : TurnFrame) → refusal game me h q f ≡ None →
    got_answer game me h q f ≡ new_answer game (next_place game me h q) (findings game ((h ++ Got q f ∷ []) ∷ [])) f
unfolding got_answer by_tests refused_by
answer_new game me q h f none = by_none (is_clean game h) (is_of_another game me q f) (is_far game me h q f) (is_same h q f) _ none

answer_refused : (game : Game) (me q : ℕ) (h : List Entry) (f : TurnFrame) (a : GotAnswer) → refusal game me h q f ≡ Some a → got_answer game me h q f ≡ a
unfolding got_answer by_tests refused_by
answer_refused game me q h f a some = by_some (is_clean game h) (is_of_another game me q f) (is_far game me h q f) (is_same h q f) _ a some

-- the log that took the frame in, and the answer by its findings
answer_taken : (game : Game) (me q : ℕ) (h : List Entry) (f : TurnFrame) → IsTaken game me h q f →
    got_answer game me (before_last h) q f ≡ new_answer game (next_place game me (before_last h) q) (findings game (h ∷ [])) f
answer_taken game me q h f w =
    answer_new game me q (before_last h) f w.new
    ∙ ap (λ (x : List Entry). new_answer game (next_place game me (before_last h) q) (findings game (x ∷ [])) f) (sym w.stands)

pub taken_caught : (game : Game) (me q : ℕ) (h : List Entry) (f : TurnFrame) (x : Finding) → IsTaken game me h q f → Some x ≡ finding_of_log game h →
    Caught x ≡ got_answer game me (before_last h) q f
taken_caught game me q h f x w found = go (findings game (h ∷ [])) found ∙ sym (answer_taken game me q h f w)
  where
    some_same : (a b : Finding) → Some a ≡ Some b → a ≡ b
    some_same a b h = cc

    go : (fs : List Finding) → Some x ≡ slice_get fs 0 → Caught x ≡ new_answer game (next_place game me (before_last h) q) fs f
    go [] e = absurd (cc)
    go (y ∷ fs) e = ap (λ (z : Finding). Caught z) (some_same x y e)

taken_clean : (game : Game) (me q : ℕ) (h : List Entry) (f : TurnFrame) → IsTaken game me h q f → None ≡ finding_of_log game h →
    (if place_of game f == next_place game me (before_last h) q then Taken else Stashed) ≡ got_answer game me (before_last h) q f
taken_clean game me q h f w none = go (findings game (h ∷ [])) none ∙ sym (answer_taken game me q h f w)
  where
    go : (fs : List Finding) → None ≡ slice_get fs 0 →
        (if place_of game f == next_place game me (before_last h) q then Taken else Stashed) ≡ new_answer game (next_place game me (before_last h) q) fs f
    go [] e = refl
    go (y ∷ fs) e = absurd (cc)

-- taken or stashed, by whether the place is the next one
pub taken_at : (game : Game) (me q : ℕ) (h : List Entry) (f : TurnFrame) (next b : Bool) → IsTaken game me h q f → None ≡ finding_of_log game h →
    next ≡ (place_of game f == next_place game me (before_last h) q) → next ≡ b → (if b then Taken else Stashed) ≡ got_answer game me (before_last h) q f
taken_at game me q h f next b w none is so = ap (λ (t : Bool). if t then Taken else Stashed) (sym so ∙ is) ∙ taken_clean game me q h f w none

taken_in : (game : Game) (me q : ℕ) (h : List Entry) (f : TurnFrame) → (is_taken_in game me h q f ≡ true) ↔ (refusal game me h q f ≡ None)
unfolding refused_by
taken_in game me q h f = by_joins (is_clean game h) (is_of_another game me q f) (is_far game me h q f) (is_same h q f)

-- what stood before the entry that was added last
pub before_pushed : (h : List Entry) (e : Entry) → before_last (h ++ e ∷ []) ≡ h
before_pushed h e =
    let l : length (h ++ e ∷ []) ≡ length h + 1 = length-append h (e ∷ []) in
    let short : length (h ++ e ∷ []) - 1 ≡ length h = omega arith in
    ap (λ n. take n (h ++ e ∷ [])) short ∙ take_front h (e ∷ [])

pub replies : (game : Game) (me q : ℕ) (h : List Entry) (f : TurnFrame) → AreReplies game me h q f
replies game me q h f = record {
  refused = λ a some. answer_refused game me q h f a some;
  joins = taken_in game me q h f;
  allowed = λ none. taken_allowed game me q h f ((taken_in game me q h f).1 none);
  taken = λ none. record {
    stands = ap (λ (x : List Entry). x ++ Got q f ∷ []) (sym (before_pushed h (Got q f)));
    new = ap (λ (x : List Entry). refusal game me x q f) (before_pushed h (Got q f)) ∙ none;
  };
  before = before_pushed h (Got q f);
}

-- the log with a frame that is taken in is honest
pub log_stays_honest : (game : Game) (me q : ℕ) (h : List Entry) (f : TurnFrame) → IsHonest game me h → refusal game me h q f ≡ None → IsHonest game me (h ++ Got q f ∷ [])
log_stays_honest game me q h f i none = honest_push game me h (Got q f) i ((replies game me q h f).allowed none)
