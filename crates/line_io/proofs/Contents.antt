-- Pieces of a file that is read from its front on are those of one content: of the bytes read.
use Rattle.std.proofs.Common.{◌≡◌, ℕ, Option, Some, None, List, [], ◌∷◌, ◌++◌, length, take, drop, refl, ap, sym, ◌∙◌, subst, append_assoc, append-nil, length-append, arith}
use Rattle.std.proofs.Math.Seq.{drop-append_seam, take-append_seam}
use Rattle.station.specs.Pieces.{Piece, GivesAt, AllGive}
use Rattle.line_io.specs.Fronts.{IsReading, bytes_given, bytes_read}

-- what a call gave stands where it asked, in bytes that begin with those read before and go on with what it gave
gives_so : (front more all : List ℕ) (gave : Option (List ℕ)) → all ≡ front ++ (bytes_given gave ++ more) → (bytes_given gave ≡ [] → more ≡ []) → GivesAt (Some all) (length front) gave
gives_so front more all None is last = tt
gives_so front more all (Some bytes) is last =
    let behind : drop (length front) all ≡ bytes ++ more = ap (drop (length front)) is ∙ drop-append_seam front (bytes ++ more) in (
      sym (ap (take (length bytes)) behind ∙ take-append_seam bytes more),
      λ none.
          let whole : all ≡ front = is ∙ ap (λ x. front ++ (x ++ more)) none ∙ ap (λ x. front ++ x) (last none) ∙ append-nil front in
          omega (arith, ap (λ (x : List ℕ). length x) whole),
    )

-- the calls behind those that read `front`
behind_front : (name all : List ℕ) (pieces : List Piece) (front : List ℕ) → IsReading name (length front) pieces → all ≡ front ++ bytes_read pieces → AllGive (Some all) pieces
behind_front name all [] front r is = tt
behind_front name all (p ∷ ps) front r is =
    let given = bytes_given p.gave in
    let last : given ≡ [] → bytes_read ps ≡ [] = λ e. ap bytes_read (r.2 e) in
    let here : GivesAt (Some all) p.at p.gave = subst (λ (n : ℕ). GivesAt (Some all) n p.gave) (sym r.1) (gives_so front (bytes_read ps) all p.gave is last) in (
      here,
      behind_front name all ps (front ++ given) (subst (λ (n : ℕ). IsReading name n ps) (sym (length-append front given)) r.3)
          (is ∙ sym (append_assoc front given (bytes_read ps))),
    )

-- the whole reading
pub reading_fits : (name : List ℕ) (pieces : List Piece) → IsReading name 0 pieces → AllGive (Some (bytes_read pieces)) pieces
reading_fits name pieces r = behind_front name (bytes_read pieces) pieces [] r refl
