-- Asking: a shelf is asked for a log, call by call.
use Rattle.std.proofs.Common.{◌≡◌, ℕ, Bool, true, false, Option, Some, None, List, [], ◌∷◌, ◌++◌, refl, sym, ap, subst, ◌∙◌}
use Rattle.definitions.specs.Lists.{EachIs}
use Rattle.plain_lemmas.proofs.Each.{each_append}
use Rattle.station.specs.Outside.{faults_behind}
use Rattle.station.specs.Pieces.{AllGive, GivesAt, Piece}
use Rattle.station.specs.Shelves.{GivesShown, ShelfState, faults_after}
use Rattle.station.specs.Since.{Grows, grows_by, grows_none, grows_on, since, since_is, since_none, since_on}
use Rattle.line_io.specs.Fronts.{AllShown, IsCall}
use Rattle.line_io.proofs.Pieces.{pieces_split}
use Rattle.live_deposit.specs.Logs.{Asks, ForLog, log_of}

-- whether a call failed that gave this
abbrev pub is_none : Option (List ℕ) → Bool
is_none None = true
is_none (Some bytes) = false

each_both : (P : Piece → Type 0) (xs ys : List Piece) → EachIs P xs → EachIs P ys → EachIs P (xs ++ ys)
each_both P [] ys front back = back
each_both P (x ∷ xs) ys front back = (front.0, each_both P xs ys front.1 back)

shown_none : (files : Option (List ℕ → Option (List ℕ))) (name : List ℕ) → AllShown files name []
shown_none (Some fs) name = tt
shown_none None name = tt

shown_one : (files : Option (List ℕ → Option (List ℕ))) (name : List ℕ) (at : ℕ) (gave : Option (List ℕ)) → GivesShown files name at gave → AllShown files name (record { name = name; at = at; gave = gave } ∷ [])
shown_one (Some fs) name at gave h = (h, tt)
shown_one None name at gave h = tt

shown_both : (files : Option (List ℕ → Option (List ℕ))) (name : List ℕ) (xs ys : List Piece) → AllShown files name xs → AllShown files name ys → AllShown files name (xs ++ ys)
shown_both (Some fs) name xs ys h k = each_append (λ (p : Piece). GivesAt (fs name) p.at p.gave) xs ys h k
shown_both None name xs ys h k = tt

pub asks_none : (name : List ℕ) (s : ShelfState) → Asks name false s s
asks_none name s = record {
  same = refl;
  grows = grows_none s.pieces;
  named = subst (EachIs (λ (p : Piece). p.name ≡ name)) (sym (since_none s.pieces)) tt;
  shown = subst (AllShown s.files name) (sym (since_none s.pieces)) (shown_none s.files name);
  counted = refl;
}

counted_is : (gave : Option (List ℕ)) (n : ℕ) → faults_after gave n ≡ faults_behind (is_none gave) n
counted_is None n = refl
counted_is (Some bytes) n = refl

pub asks_call : (name : List ℕ) (at : ℕ) (gave : Option (List ℕ)) (s t : ShelfState) → IsCall s t name at gave → Asks name (is_none gave) s t
asks_call name at gave s t call =
    let p : Piece = record { name = name; at = at; gave = gave } in
    let grown : t.pieces ≡ s.pieces ++ p ∷ [] = ap (λ (x : ShelfState). x.pieces) call.after in
    let one : since s.pieces t.pieces ≡ p ∷ [] = since_is s.pieces t.pieces (p ∷ []) grown in
    record {
      same = ap (λ (x : ShelfState). x.files) call.after;
      grows = grows_by s.pieces t.pieces (p ∷ []) grown;
      named = subst (EachIs (λ (q : Piece). q.name ≡ name)) (sym one) (refl, tt);
      shown = subst (AllShown s.files name) (sym one) (shown_one s.files name at gave call.shown);
      counted = ap (λ (x : ShelfState). x.faults) call.after ∙ counted_is gave s.faults;
    }

pub asks_then : (name : List ℕ) (failed : Bool) (s t u : ShelfState) → Asks name false s t → Asks name failed t u → Asks name failed s u
asks_then name failed s t u a b =
    let on : since s.pieces u.pieces ≡ since s.pieces t.pieces ++ since t.pieces u.pieces = since_on s.pieces t.pieces u.pieces a.grows b.grows in
    record {
      same = b.same ∙ a.same;
      grows = grows_on s.pieces t.pieces u.pieces a.grows b.grows;
      named = subst (EachIs (λ (q : Piece). q.name ≡ name)) (sym on) (each_both (λ (q : Piece). q.name ≡ name) (since s.pieces t.pieces) (since t.pieces u.pieces) a.named b.named);
      shown = subst (AllShown s.files name) (sym on)
          (shown_both s.files name (since s.pieces t.pieces) (since t.pieces u.pieces) a.shown (subst (λ (f : Option (List ℕ → Option (List ℕ))). AllShown f name (since t.pieces u.pieces)) a.same b.shown));
      counted = b.counted ∙ ap (faults_behind failed) a.counted;
    }

-- ---- for each log that gives what was answered

pub for_all : (s t : ShelfState) (P : List ℕ → Type 0) → ((log : List ℕ) → P log) → ForLog s t P
for_all s t P f content all = f (log_of content)

-- what a content gives that gives all that two stretches of calls answered
pub for_both : (s t u : ShelfState) (P Q R : List ℕ → Type 0) → Grows s.pieces t.pieces → Grows t.pieces u.pieces → ((log : List ℕ) → P log → Q log → R log) → ForLog s t P → ForLog t u Q → ForLog s u R
for_both s t u P Q R g h f p q content all =
    let both = pieces_split (λ (x : Piece). GivesAt (Some content) x.at x.gave) s.pieces t.pieces u.pieces g h all in
    f (log_of content) (p content both.0) (q content both.1)

pub for_call : (s t : ShelfState) (name : List ℕ) (at : ℕ) (gave : Option (List ℕ)) (P : List ℕ → Type 0) → IsCall s t name at gave → ((content : List ℕ) → GivesAt (Some content) at gave → P (log_of content)) → ForLog s t P
for_call s t name at gave P call f content all =
    let p : Piece = record { name = name; at = at; gave = gave } in
    let one : since s.pieces t.pieces ≡ p ∷ [] = since_is s.pieces t.pieces (p ∷ []) (ap (λ (x : ShelfState). x.pieces) call.after) in
    let given : AllGive (Some content) (p ∷ []) = subst (AllGive (Some content)) one all in
    f content given.0

pub for_later : (s t u : ShelfState) (P : List ℕ → Type 0) → Grows s.pieces t.pieces → Grows t.pieces u.pieces → ForLog t u P → ForLog s u P
for_later s t u P g h p content all = p content (pieces_split (λ (x : Piece). GivesAt (Some content) x.at x.gave) s.pieces t.pieces u.pieces g h all).1

pub for_first : (s t u : ShelfState) (P : List ℕ → Type 0) → Grows s.pieces t.pieces → Grows t.pieces u.pieces → ForLog s t P → ForLog s u P
for_first s t u P g h p content all = p content (pieces_split (λ (x : Piece). GivesAt (Some content) x.at x.gave) s.pieces t.pieces u.pieces g h all).0
