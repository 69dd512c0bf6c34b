-- What was permitted stays permitted as a log grows, and who is waited for.
use Rattle.std.proofs.Common.{Bool, List, Some, [], ap, append_assoc, arith, false, refl, sym, true, ℕ, ◌++◌, ◌-◌, ◌∙◌, ◌∷◌, ◌≡◌, ◌≤◌}
use Rattle.std.specs.Prelude.{cond, filter, if◌then◌else◌, is_some, map, nat_lt, not, ◌&&◌, ◌||◌}
use Rattle.std.specs.List.{list_all}
use Rattle.std.proofs.lemmas.Bool.{and_parts}
use Rattle.plain_lemmas.proofs.Tests.{not_kept}
use Rattle.definitions.specs.Needs.{need_of, needs, needs_unless}
use Rattle.definitions.specs.Honest.{IsHonest, allowed, honest_from, lets_commit, lets_reveal, made_count, may_commit, may_reveal, others}
use Rattle.definitions.specs.Lists.{is_empty}
use Rattle.definitions.specs.declared.frames.What.TheVariants.{Commit, Reveal}
use Rattle.definitions.specs.declared.answers.Need.{Need}
use Rattle.definitions.specs.Held.{held, resolved, resolved_count}
use Rattle.definitions.specs.Places.{slot_at}
use Rattle.definitions.specs.World.{Game}
use Rattle.definitions.specs.declared.logs.Entry.{Entry}
use Rattle.definition_laws.proofs.Listing.{append_nil, either_kept, list_all_kept, some_along}
use Rattle.definition_laws.proofs.Grows.{known_grows}
use Rattle.definition_laws.proofs.Meetings.{meets_before}

-- a digest that is held stays held
pub held_later : (game : Game) (me q t : ℕ) (g h : List Entry) → is_some (held game me g q t) ≡ true → is_some (held game me (g ++ h) q t) ≡ true
held_later game me q t g h i = let b = known_grows game me q g h in some_along _ _ _ t b.digests_are i

-- a turn that is resolved stays resolved
pub resolved_later : (game : Game) (me q t : ℕ) (g h : List Entry) → is_some (resolved game me g q t) ≡ true → is_some (resolved game me (g ++ h) q t) ≡ true
resolved_later game me q t g h i = let b = known_grows game me q g h in some_along _ _ _ t b.moves_are i

-- who lets the owner reveal goes on to let it
pub may_reveal_later : (game : Game) (me t : ℕ) (g h : List Entry) → t ≤ resolved_count game me g me →
    may_reveal game me g t ≡ true → may_reveal game me (g ++ h) t ≡ true
unfolding may_reveal
may_reveal_later game me t g h own m =
    list_all_kept (lets_reveal game me g t) (lets_reveal game me (g ++ h) t) (others game me)
    (λ q. either_kept _ _ _ _ (held_later game me q t g h) (not_kept _ _ (meets_before game me q t g h own))) m

-- who lets the owner commit goes on to let it
pub may_commit_later : (game : Game) (me t : ℕ) (g h : List Entry) → t - game.ahead ≤ resolved_count game me g me →
    may_commit game me g t ≡ true → may_commit game me (g ++ h) t ≡ true
unfolding may_commit
may_commit_later game me t g h own m =
    either_kept _ _ _ _ (λ e. e)
    (list_all_kept (lets_commit game me g (t - game.ahead)) (lets_commit game me (g ++ h) (t - game.ahead)) (others game me)
    (λ q. either_kept _ _ _ _ (resolved_later game me q (t - game.ahead) g h) (not_kept _ _ (meets_before game me q (t - game.ahead) g h own)))) m

-- the entries of an honest log are those of its beginning, and those that may follow it
pub honest_from_append : (game : Game) (me : ℕ) (g xs ys : List Entry) →
    honest_from game me g (xs ++ ys) ≡ (honest_from game me g xs && honest_from game me (g ++ xs) ys)
unfolding honest_from
honest_from_append game me g [] ys = ap (λ (zs : List Entry). honest_from game me zs ys) (sym (append_nil g))
honest_from_append game me g (x ∷ xs) ys =
    let ih = honest_from_append game me (g ++ x ∷ []) xs ys in
    let e : (g ++ x ∷ []) ++ xs ≡ g ++ x ∷ xs = append_assoc g (x ∷ []) xs in
    let same = ap (λ (zs : List Entry). honest_from game me zs ys) e in
    grind arith

-- the beginning of an honest log is honest
pub IsHonest_prefix : (game : Game) (me : ℕ) (xs ys : List Entry) → IsHonest game me (xs ++ ys) → IsHonest game me xs
IsHonest_prefix game me xs ys h = (and_parts _ _ (sym (honest_from_append game me [] xs ys) ∙ h)).0

-- an honest log with one entry more is honest exactly where that entry was allowed
pub honest_from_push : (game : Game) (me : ℕ) (g : List Entry) (e : Entry) →
    honest_from game me [] (g ++ e ∷ []) ≡ (honest_from game me [] g && allowed game me g e)
unfolding honest_from
honest_from_push game me g e = let h = honest_from_append game me [] g (e ∷ []) in grind arith

is_empty_needs : (f : ℕ → Need) (p : ℕ → Bool) (xs : List ℕ) → is_empty (map f (filter (λ q. not (p q)) xs)) ≡ list_all p xs
is_empty_needs f p [] = refl
is_empty_needs f p (x ∷ xs) = go (p x) (is_empty_needs f p xs)
  where
    go : (b : Bool) → is_empty (map f (filter (λ q. not (p q)) xs)) ≡ list_all p xs →
        is_empty (map f (cond (not b) (x ∷ filter (λ q. not (p q)) xs) (filter (λ q. not (p q)) xs))) ≡ (b && list_all p xs)
    go true ih = ih
    go false ih = refl

-- where the next frame is the commitment of a turn, no one is waited for exactly where it may be made
pub needs_commit : (game : Game) (me t : ℕ) (h : List Entry) → slot_at game (made_count h) ≡ Some (record { what = Commit; turn = t }) →
    is_empty (needs game me h) ≡ may_commit game me h t
unfolding needs may_commit
needs_commit game me t h e = rw e (go (nat_lt t game.ahead))
  where
    go : (b : Bool) → is_empty (if b then [] else needs_unless game me h (lets_commit game me h (t - game.ahead)) (t - game.ahead) Reveal) ≡ (b || list_all (lets_commit game me h (t - game.ahead)) (others game me))
    go true = refl
    go false = is_empty_needs (need_of game me h (t - game.ahead) Reveal) (lets_commit game me h (t - game.ahead)) (others game me)

-- where the next frame is the reveal of a turn, no one is waited for exactly where it may be made
pub needs_reveal : (game : Game) (me t : ℕ) (h : List Entry) → slot_at game (made_count h) ≡ Some (record { what = Reveal; turn = t }) →
    is_empty (needs game me h) ≡ may_reveal game me h t
unfolding needs may_reveal
needs_reveal game me t h e = rw e (is_empty_needs (need_of game me h t Commit) (lets_reveal game me h t) (others game me))
