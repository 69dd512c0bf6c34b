-- A history with one item more.
use Rattle.std.specs.List.{count_by}
use Rattle.std.proofs.Common.{◌≡◌, ◌⊎◌, inl, inr, ℕ, ◌+◌, ◌==◌, ◌||◌, Bool, true, false, List, [], ◌∷◌, ◌++◌, ap, sym, refl, ◌∙◌, cond, arith, if◌then◌else◌, append-nil}
use Rattle.std.proofs.lemmas.Bool.Decides.{nat_tests}
use Rattle.std.proofs.lemmas.Grind.{flat_map-append}
use Rattle.std.proofs.lemmas.List.Sums.{fold-append, sum_by-append}
use Rattle.socket_station.specs.declared.answers.Ready.{Ready}
use Rattle.socket_station.specs.declared.answers.Ready.TheVariants.{Opened, Socket as Seems}
use Rattle.socket_station.specs.declared.answers.Standing.{Standing}
use Rattle.socket_station.specs.declared.answers.Standing.TheVariants.{Fresh, Open, Closed}
use Rattle.socket_station.specs.Items.{Item, Call}
use Rattle.socket_station.specs.Items as I
use Rattle.socket_station.specs.Laws.{is_opening}
use Rattle.socket_station.specs.Moved.{taken_in, took_at, given_in, gave_at, kept_in, kept_at}
use Rattle.socket_station.specs.Standings.{standing_in, standing_after, standing_failed, opens, AreNew, OpensNew}

-- how a number stands after one item more
pub standing-more : (items : List Item) (item : Item) (n : ℕ) → standing_in (items ++ item ∷ []) n ≡ standing_after n (standing_in items n) item
standing-more items item n = fold-append (standing_after n) Fresh items (item ∷ [])

-- which bytes were moved by then
pub taken-more : (s : ℕ) (items : List Item) (item : Item) → taken_in s (items ++ item ∷ []) ≡ taken_in s items ++ took_at s item
taken-more s items item = flat_map-append (took_at s) items (item ∷ []) ∙ ap (λ (x : List ℕ). taken_in s items ++ x) (append-nil (took_at s item))

pub given-more : (s : ℕ) (items : List Item) (item : Item) → given_in s (items ++ item ∷ []) ≡ given_in s items ++ gave_at s item
given-more s items item = flat_map-append (gave_at s) items (item ∷ []) ∙ ap (λ (x : List ℕ). given_in s items ++ x) (append-nil (gave_at s item))

pub kept-more : (items : List Item) (item : Item) → kept_in (items ++ item ∷ []) ≡ kept_in items ++ kept_at item
kept-more items item = flat_map-append kept_at items (item ∷ []) ∙ ap (λ (x : List ℕ). kept_in items ++ x) (append-nil (kept_at item))

-- how many items pass a test by then
pub count-more : (p : Item → Bool) (items : List Item) (item : Item) → count_by p (items ++ item ∷ []) ≡ count_by p items + (if p item then 1 else 0)
count-more p items item = by-test (p item) (sum_by-append (λ x. cond (p x) 1 0) items (item ∷ []))
  where
    by-test : (b : Bool) → count_by p (items ++ item ∷ []) ≡ count_by p items + (0 + cond {A = ℕ} b 1 0) → count_by p (items ++ item ∷ []) ≡ count_by p items + (if b then 1 else 0)
    by-test true e = omega (arith, e)
    by-test false e = omega (arith, e)

-- a number that a new list opens was never used
new-opens : (standing : ℕ → Standing) (list : List Ready) (n : ℕ) → AreNew standing list → opens list n ≡ true → standing n ≡ Fresh
new-opens standing [] n a o = absurd (cc)
new-opens standing (Opened s ∷ list) n a o = by-test (s == n) refl o (new-opens standing list n a.2)
  where
    by-test : (t : Bool) → (s == n) ≡ t → (t || opens list n) ≡ true → (opens list n ≡ true → standing n ≡ Fresh) → standing n ≡ Fresh
    by-test true e h r = let x : s ≡ n = grind (arith, nat_tests) in ap standing (sym x) ∙ a.0
    by-test false e h r = r h
new-opens standing (Seems s ∷ list) n a o = new-opens standing list n a o

fresh-closed : (s t : Standing) → s ≡ Closed → s ≡ Fresh → (if true then Open else t) ≡ Closed
fresh-closed s t c f = absurd (let e : Closed ≡ Fresh = sym c ∙ f in cc)

closed-either : (b : Bool) (s : Standing) → s ≡ Closed → (if b then Closed else s) ≡ Closed
closed-either true s e = refl
closed-either false s e = e

closed-failed : (call : Call) (n : ℕ) (s : Standing) → s ≡ Closed → standing_failed call n s ≡ Closed
closed-failed (I.ReadCall t) n s e = closed-either (t == n) s e
closed-failed (I.WriteCall t) n s e = closed-either (t == n) s e
closed-failed (I.ListenCall a) n s e = e
closed-failed (I.LogCall a) n s e = e
closed-failed (I.DialCall a b) n s e = e
closed-failed I.PollCall n s e = e
closed-failed (I.KeepCall a) n s e = e
closed-failed I.SyncCall n s e = e

closed-after : (items : List Item) (item : Item) (n : ℕ) → standing_in items n ≡ Closed → OpensNew items item → standing_after n (standing_in items n) item ≡ Closed
closed-after items (I.Dialled s player addr) n e new = by-test (s == n) refl
  where
    by-test : (b : Bool) → (s == n) ≡ b → (if b then Open else standing_in items n) ≡ Closed
    by-test true t = let x : s ≡ n = grind (arith, nat_tests) in fresh-closed (standing_in items n) (standing_in items n) e (ap (λ (k : ℕ). standing_in items k) (sym x) ∙ new)
    by-test false t = e
closed-after items (I.Polled list) n e new = by-test (opens list n) refl
  where
    by-test : (b : Bool) → opens list n ≡ b → (if b then Open else standing_in items n) ≡ Closed
    by-test true t = fresh-closed (standing_in items n) (standing_in items n) e (new-opens (standing_in items) list n new t)
    by-test false t = e
closed-after items (I.Ended s) n e new = closed-either (s == n) (standing_in items n) e
closed-after items (I.Shut s) n e new = closed-either (s == n) (standing_in items n) e
closed-after items (I.Failed call) n e new = closed-failed call n (standing_in items n) e
closed-after items (I.Listening a) n e new = e
closed-after items (I.LogBegun a) n e new = e
closed-after items (I.Took a b) n e new = e
closed-after items (I.Gave a b) n e new = e
closed-after items (I.ReadNotYet a) n e new = e
closed-after items (I.WriteNotYet a) n e new = e
closed-after items (I.Kept a) n e new = e
closed-after items I.Synced n e new = e

pub closed-stays : (items : List Item) (item : Item) (n : ℕ) → standing_in items n ≡ Closed → OpensNew items item → standing_in (items ++ item ∷ []) n ≡ Closed
closed-stays items item n e new = standing-more items item n ∙ closed-after items item n e new

-- a number is opened by an item that opens it
open-or : (b : Bool) (s : Standing) → (if b then Open else s) ≡ Open → (b ≡ true) ⊎ (s ≡ Open)
open-or true s e = inl refl
open-or false s e = inr e

open-closing : (b : Bool) (s : Standing) → (if b then Closed else s) ≡ Open → s ≡ Open
open-closing true s e = absurd (cc)
open-closing false s e = e

open-failed : (call : Call) (n : ℕ) (s : Standing) → standing_failed call n s ≡ Open → s ≡ Open
open-failed (I.ReadCall t) n s e = open-closing (t == n) s e
open-failed (I.WriteCall t) n s e = open-closing (t == n) s e
open-failed (I.ListenCall a) n s e = e
open-failed (I.LogCall a) n s e = e
open-failed (I.DialCall a b) n s e = e
open-failed I.PollCall n s e = e
open-failed (I.KeepCall a) n s e = e
open-failed I.SyncCall n s e = e

open-after : (item : Item) (n : ℕ) (s : Standing) → standing_after n s item ≡ Open → (is_opening item n ≡ true) ⊎ (s ≡ Open)
open-after (I.Dialled t player addr) n s e = open-or (t == n) s e
open-after (I.Polled list) n s e = open-or (opens list n) s e
open-after (I.Ended t) n s e = inr (open-closing (t == n) s e)
open-after (I.Shut t) n s e = inr (open-closing (t == n) s e)
open-after (I.Failed call) n s e = inr (open-failed call n s e)
open-after (I.Listening a) n s e = inr e
open-after (I.LogBegun a) n s e = inr e
open-after (I.Took a b) n s e = inr e
open-after (I.Gave a b) n s e = inr e
open-after (I.ReadNotYet a) n s e = inr e
open-after (I.WriteNotYet a) n s e = inr e
open-after (I.Kept a) n s e = inr e
open-after I.Synced n s e = inr e

pub opened-by : (items : List Item) (item : Item) (n : ℕ) → standing_in (items ++ item ∷ []) n ≡ Open → (is_opening item n ≡ true) ⊎ (standing_in items n ≡ Open)
opened-by items item n e = open-after item n (standing_in items n) (sym (standing-more items item n) ∙ e)
