-- A file that is read piece by piece, from its front on.
use Rattle.std.proofs.Common.{◌≡◌, ℕ, ◌+◌, ◌<◌, ◌≤◌, false, true, Option, Some, None, List, [], ◌∷◌, ◌++◌, length, take, refl, ap, sym, ◌∙◌, subst, length-append, append-nil, arith}
use Rattle.std.specs.Prelude.{Err, Ok}
use Rattle.std.specs.List.{AllByRecursion}
use Rattle.std.proofs.Math.Seq.{take-add}
use Rattle.std.proofs.lemmas.List.{take-append-drop, drop_all}
use Rattle.plain_lemmas.proofs.Each.{each_append}
use Rattle.station.specs.Outside.{one_more}
use Rattle.station.specs.Pieces.{Piece, GivesAt, AllGive}
use Rattle.station.specs.Shelves.{ShelfState, GivesShown}
use Rattle.station.specs.Since.{since, Grows, since_is, since_none, since_on, grows_by, grows_none, grows_on}
use Rattle.line_io.specs.Fronts.{AllShown, Fetched, IsCall, IsFrontOf, IsReading, ReadsFront, TakesPiece, bytes_given}
use Rattle.line_io.specs.declared.fronts.FrontFault.{FrontFault}
use Rattle.line_io.specs.declared.fronts.FrontFault.TheVariants.{NoMemory, Failed}

-- Facts of all pieces, call by call.
pub all_split : {A : Type 0} (P : A → Type 0) (xs ys : List A) → AllByRecursion P (xs ++ ys) → AllByRecursion P xs × AllByRecursion P ys
all_split P [] ys h = (tt, h)
all_split P (x ∷ xs) ys h = let r = all_split P xs ys h.1 in ((h.0, r.0), r.1)

-- the same of what was added in one stretch and the next
pub pieces_split : (P : Piece → Type 0) (a b c : List Piece) → Grows a b → Grows b c → AllByRecursion P (since a c) → AllByRecursion P (since a b) × AllByRecursion P (since b c)
pieces_split P a b c g h all = all_split P (since a b) (since b c) (subst (AllByRecursion P) (since_on a b c g h) all)

pub pieces_on : (P : Piece → Type 0) (a b c : List Piece) → Grows a b → Grows b c → AllByRecursion P (since a b) → AllByRecursion P (since b c) → AllByRecursion P (since a c)
pieces_on P a b c g h x y = subst (AllByRecursion P) (sym (since_on a b c g h)) (each_append P (since a b) (since b c) x y)

pub pieces_none : (P : Piece → Type 0) (a : List Piece) → AllByRecursion P (since a a)
pieces_none P a = subst (AllByRecursion P) (sym (since_none a)) tt

-- one call more
pub pieces_before : (P : Piece → Type 0) (a b c : List Piece) (p : Piece) → Grows a b → c ≡ b ++ p ∷ [] → AllByRecursion P (since a c) → AllByRecursion P (since a b) × P p
pieces_before P a b c p g e h =
    let r = pieces_split P a b c g (grows_by b c (p ∷ []) e) h in
    let last : AllByRecursion P (p ∷ []) = subst (AllByRecursion P) (since_is b c (p ∷ []) e) r.1 in
    (r.0, last.0)

-- Calls that read a file from a place on, each of which gave bytes, up to the place `next`.
abbrev pub ReadsTo : (name : List ℕ) → (at : ℕ) → List Piece → (next : ℕ) → Type 0
ReadsTo name at [] next = at ≡ next
ReadsTo name at (piece ∷ pieces) next =
    (piece.name ≡ name) × (piece.at ≡ at) × (0 < length (bytes_given piece.gave)) × ReadsTo name (at + length (bytes_given piece.gave)) pieces next

-- and a further one that gave bytes, or any
reads_more : (name : List ℕ) (at : ℕ) (pieces : List Piece) (next : ℕ) (gave : Option (List ℕ)) → ReadsTo name at pieces next → 0 < length (bytes_given gave) →
    ReadsTo name at (pieces ++ record { name = name; at = next; gave = gave } ∷ []) (next + length (bytes_given gave))
reads_more name at [] next gave h some = (refl, sym h, some, ap (λ n. n + length (bytes_given gave)) h)
reads_more name at (p ∷ ps) next gave h some = (h.0, h.1, h.2, reads_more name (at + length (bytes_given p.gave)) ps next gave h.3 some)

no_bytes : (bytes : List ℕ) (P : Type 0) → 0 < length bytes → bytes ≡ [] → P
no_bytes bytes P some none = absurd (omega (arith, some, ap (λ (b : List ℕ). length b) none))

reading_last : (name : List ℕ) (at : ℕ) (pieces : List Piece) (next : ℕ) (gave : Option (List ℕ)) → ReadsTo name at pieces next →
    IsReading name at (pieces ++ record { name = name; at = next; gave = gave } ∷ [])
reading_last name at [] next gave h = (refl, sym h, λ e. refl, tt)
reading_last name at (p ∷ ps) next gave h =
    (h.0, h.1, λ e. no_bytes (bytes_given p.gave) _ h.2 e, reading_last name (at + length (bytes_given p.gave)) ps next gave h.3)

reading_so : (name : List ℕ) (at : ℕ) (pieces : List Piece) (next : ℕ) → ReadsTo name at pieces next → IsReading name at pieces
reading_so name at [] next h = tt
reading_so name at (p ∷ ps) next h = (h.0, h.1, λ e. no_bytes (bytes_given p.gave) _ h.2 e, reading_so name (at + length (bytes_given p.gave)) ps next h.3)

-- A file is being read: its bytes up to the place `next` were given.
pub record Fetching (before now : ShelfState) (name : List ℕ) (next : ℕ) : Type 0 where
  pub same : now.files ≡ before.files
  pub grows : Grows before.pieces now.pieces
  pub reads : ReadsTo name 0 (since before.pieces now.pieces) next
  pub shown : AllShown before.files name (since before.pieces now.pieces)
  pub counted : now.faults ≡ before.faults

pub fetching_none : (s : ShelfState) (name : List ℕ) → Fetching s s name 0
fetching_none s name = record {
  same = refl;
  grows = grows_none s.pieces;
  reads = subst (λ (ps : List Piece). ReadsTo name 0 ps 0) (sym (since_none s.pieces)) refl;
  shown = subst (AllShown s.files name) (sym (since_none s.pieces)) (go s.files);
  counted = refl;
}
  where
    go : (files : Option (List ℕ → Option (List ℕ))) → AllShown files name []
    go (Some f) = tt
    go None = tt

-- the pieces after one call more
module _ (a b c : ShelfState) (name : List ℕ) (next : ℕ) (gave : Option (List ℕ)) (f : Fetching a b name next) (call : IsCall b c name next gave) where
  piece : Piece
  piece = record { name = name; at = next; gave = gave }

  grown : c.pieces ≡ b.pieces ++ piece ∷ []
  unfolding piece
  grown = ap (λ (s : ShelfState). s.pieces) call.after

  pieces_are : since a.pieces c.pieces ≡ since a.pieces b.pieces ++ piece ∷ []
  pieces_are =
      since_on a.pieces b.pieces c.pieces f.grows (grows_by b.pieces c.pieces (piece ∷ []) grown) ∙
      ap (λ (ps : List Piece). since a.pieces b.pieces ++ ps) (since_is b.pieces c.pieces (piece ∷ []) grown)

  pub now_grows : Grows a.pieces c.pieces
  now_grows = grows_on a.pieces b.pieces c.pieces f.grows (grows_by b.pieces c.pieces (piece ∷ []) grown)

  shown_more : AllShown a.files name (since a.pieces b.pieces ++ piece ∷ [])
  unfolding piece
  shown_more = go a.files f.same f.shown
    where
      go : (files : Option (List ℕ → Option (List ℕ))) → b.files ≡ files → AllShown files name (since a.pieces b.pieces) → AllShown files name (since a.pieces b.pieces ++ piece ∷ [])
      go (Some fs) same shown = each_append (λ (p : Piece). GivesAt (fs name) p.at p.gave) (since a.pieces b.pieces) (piece ∷ []) shown (subst (λ (o : Option (List ℕ → Option (List ℕ))). GivesShown o name next gave) same call.shown, tt)
      go None same shown = tt

  now_shown : AllShown a.files name (since a.pieces c.pieces)
  now_shown = subst (AllShown a.files name) (sym pieces_are) shown_more

  now_same : c.files ≡ a.files
  now_same = ap (λ (s : ShelfState). s.files) call.after ∙ f.same

  now_reading : IsReading name 0 (since a.pieces c.pieces)
  unfolding piece
  now_reading = subst (IsReading name 0) (sym pieces_are) (reading_last name 0 (since a.pieces b.pieces) next gave f.reads)

  now_reads : 0 < length (bytes_given gave) → ReadsTo name 0 (since a.pieces c.pieces) (next + length (bytes_given gave))
  unfolding piece
  now_reads some =
      subst (λ (ps : List Piece). ReadsTo name 0 ps (next + length (bytes_given gave))) (sym pieces_are) (reads_more name 0 (since a.pieces b.pieces) next gave f.reads some)

-- the call gave bytes, or the end, or it failed
pub fetching_more : (a b c : ShelfState) (name : List ℕ) (next : ℕ) (bytes : List ℕ) → Fetching a b name next → IsCall b c name next (Some bytes) → 0 < length bytes →
    Fetching a c name (next + length bytes)
fetching_more a b c name next bytes f call some = record {
  same = now_same a b c name next (Some bytes) f call;
  grows = now_grows a b c name next (Some bytes) f call;
  reads = now_reads a b c name next (Some bytes) f call some;
  shown = now_shown a b c name next (Some bytes) f call;
  counted = ap (λ (s : ShelfState). s.faults) call.after ∙ f.counted;
}

pub fetched_some : (a b c : ShelfState) (name : List ℕ) (next : ℕ) (bytes : List ℕ) → Fetching a b name next → IsCall b c name next (Some bytes) → Fetched a c name false
fetched_some a b c name next bytes f call = record {
  same = now_same a b c name next (Some bytes) f call;
  grows = now_grows a b c name next (Some bytes) f call;
  reading = now_reading a b c name next (Some bytes) f call;
  shown = now_shown a b c name next (Some bytes) f call;
  counted = ap (λ (s : ShelfState). s.faults) call.after ∙ f.counted;
}

pub fetched_failed : (a b c : ShelfState) (name : List ℕ) (next : ℕ) → Fetching a b name next → IsCall b c name next None → Fetched a c name true
fetched_failed a b c name next f call = record {
  same = now_same a b c name next None f call;
  grows = now_grows a b c name next None f call;
  reading = now_reading a b c name next None f call;
  shown = now_shown a b c name next None f call;
  counted = ap (λ (s : ShelfState). s.faults) call.after ∙ ap one_more f.counted;
}

-- the pieces before the call, and what it gave
pub call_split : (content : Option (List ℕ)) (a b c : ShelfState) (name : List ℕ) (next : ℕ) (gave : Option (List ℕ)) → Fetching a b name next → IsCall b c name next gave →
    AllGive content (since a.pieces c.pieces) → AllGive content (since a.pieces b.pieces) × GivesAt content next gave
call_split content a b c name next gave f call h =
    pieces_before (λ (p : Piece). GivesAt content p.at p.gave) a.pieces b.pieces c.pieces (record { name = name; at = next; gave = gave }) f.grows (ap (λ (s : ShelfState). s.pieces) call.after) h

-- no further call was made
pub fetched_so : (a b : ShelfState) (name : List ℕ) (next : ℕ) → Fetching a b name next → Fetched a b name false
fetched_so a b name next f = record {
  same = f.same;
  grows = f.grows;
  reading = reading_so name 0 (since a.pieces b.pieces) next f.reads;
  shown = f.shown;
  counted = f.counted;
}

-- Nothing was read yet, or the file is there and the text is a front of it.
abbrev pub Fronted : Option (List ℕ) → List ℕ → Type 0
Fronted (Some content) text = text ≡ take (length text) content
Fronted None text = text ≡ []

-- nothing is read yet
pub front_none : (content : Option (List ℕ)) (text : List ℕ) → text ≡ [] → Fronted content text
front_none None text e = e
front_none (Some bytes) text e = rw e refl

-- one piece more
pub front_more : (content : Option (List ℕ)) (text bytes items : List ℕ) → Fronted content text → GivesAt content (length text) (Some bytes) → items ≡ text ++ bytes → Fronted content items
front_more None text bytes items front gives is = absurd gives
front_more (Some content) text bytes items front gives is =
    let n = length text in
    let k = length bytes in
    let long : length items ≡ n + k = ap length is ∙ length-append text bytes in
    is ∙ ap (λ x. x ++ bytes) front ∙ ap (λ x. take n content ++ x) gives.0 ∙ sym (take-add n k content) ∙ ap (λ m. take m content) (sym long)

take_whole : (n : ℕ) (xs : List ℕ) → length xs ≤ n → take n xs ≡ xs
take_whole n xs l = sym (append-nil (take n xs)) ∙ ap (λ x. take n xs ++ x) (sym (drop_all n xs l)) ∙ take-append-drop n xs

-- the file ended
pub front_ended : (content : Option (List ℕ)) (text : List ℕ) (limit : ℕ) → Fronted content text → GivesAt content (length text) (Some []) → length text ≤ limit → IsFrontOf limit content text
front_ended None text limit front gives l = absurd gives
front_ended (Some bytes) text limit front gives l =
    let short : length bytes ≤ length text = gives.1 refl in
    front ∙ take_whole (length text) bytes short ∙ sym (take_whole limit bytes (omega (arith, short, l)))

-- the limit is reached
pub front_full : (content : Option (List ℕ)) (text : List ℕ) (limit : ℕ) → Fronted content text → 0 < limit → length text ≡ limit → IsFrontOf limit content text
front_full None text limit front some full = absurd (omega (arith, some, full, ap length front))
front_full (Some bytes) text limit front some full = front ∙ ap (λ (k : ℕ). take k bytes) full

-- reading ends without a text
pub front_refused : (a b c : ShelfState) (name text text' : List ℕ) (room limit : ℕ) (fault : FrontFault) → Fetching a b name (length text) → TakesPiece b c name text text' room (Err fault) →
    ReadsFront a c name limit (Err fault)
front_refused a b c name text text' room limit NoMemory f call = record { fetched = fetched_some a b c name (length text) call.0 f call.1; front_is = λ content h. tt; short = tt }
front_refused a b c name text text' room limit Failed f call = record { fetched = fetched_failed a b c name (length text) f call; front_is = λ content h. tt; short = tt }

pub front_stopped : (a b c : ShelfState) (name text text' : List ℕ) (room limit count : ℕ) → Fetching a b name (length text) →
    ((content : Option (List ℕ)) → AllGive content (since a.pieces b.pieces) → Fronted content text) → length text ≤ limit → TakesPiece b c name text text' room (Ok count) →
    count ≡ 0 → ReadsFront a c name limit (Ok text')
front_stopped a b c name text text' room limit count f fronted short piece none =
    let empty : piece.0 ≡ [] = empty_of piece.0 (piece.2 ∙ none) in
    let call : IsCall b c name (length text) (Some []) = subst (λ (bs : List ℕ). IsCall b c name (length text) (Some bs)) empty piece.1 in
    let same : text' ≡ text = piece.4 ∙ ap (λ (bs : List ℕ). text ++ bs) empty ∙ append-nil text in
    record {
      fetched = fetched_some a b c name (length text) [] f call;
      front_is = λ content h.
          let r = call_split content a b c name (length text) (Some []) f call h in
          subst (λ (t : List ℕ). IsFrontOf limit content t) (sym same) (front_ended content text limit (fronted content r.0) r.1 short);
      short = subst (λ (t : List ℕ). length t ≤ limit) (sym same) short;
    }
  where
    empty_of : (bs : List ℕ) → length bs ≡ 0 → bs ≡ []
    empty_of [] e = refl
    empty_of (b ∷ bs) e = absurd (omega (arith, e))
