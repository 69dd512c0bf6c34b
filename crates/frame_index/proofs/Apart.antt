-- Apart: where each reveal stands in a table under its digest, no two have one digest.
use Rattle.std.proofs.Common.{Bool, List, None, Some, ap, arith, false, inl, inr, refl, subst, sym, true, ℕ, ◌+◌, ◌<◌, ◌∙◌, ◌≡◌, cond, slice_get, length}
use Rattle.std.specs.Prelude.{not}
use Rattle.std.proofs.lemmas.Bool.{cases_lt, false≢true}
use Rattle.std.proofs.lemmas.Option.{slice_get_within}
use Rattle.definitions.specs.declared.openings.Digest.{Digest}
use Rattle.definitions.specs.declared.frames.TurnFrame.{TurnFrame}
use Rattle.definitions.specs.Logs.{digest_eq, frame_eq}
use Rattle.definitions.specs.Findings.{is_commit}
use Rattle.definition_laws.specs.Members.{Has}
use Rattle.definition_laws.proofs.Members.{Has_slice_get}
use Rattle.definition_laws.proofs.Alike.{digest_eq_same, digest_eq_true, frame_eq_same, frame_eq_true}
use Rattle.frame_index.specs.declared.seen.Seen.{Seen}
use Rattle.frame_index.specs.Clashes.{AreApart, HaveClash, InTable, IsClash, IsFrom, IsNoted, Table}

module _ where
  pub apart_by : (table : Table) (seen : List Seen) → ((n : ℕ) (k : Seen) → n < length seen → slice_get seen n ≡ Some k → InTable table k) → AreApart seen
  apart_by table seen all k l mk ml rk rl same =
      let i = Has_slice_get seen k mk in
      let j = Has_slice_get seen l ml in
      let a : table k.digest ≡ Some k.frame = all i.0 k (slice_get_within seen i.0 k i.1) i.1 rk in
      let b : table l.digest ≡ Some l.frame = all j.0 l (slice_get_within seen j.0 l j.1) j.1 rl in
      let c : Some k.frame ≡ Some l.frame = sym a ∙ ap (λ (d : Digest). table d) (digest_eq_true k.digest l.digest same) ∙ b in
      cc

  -- a commitment leaves the table
  pub noted_commit : (table : Table) (one : Seen) → is_commit one.frame ≡ true → IsNoted table table one
  noted_commit table one e = ((λ r. absurd (false≢true (sym r ∙ e))), λ k h. h)

  -- so does a reveal that stands in it
  pub noted_same : (table : Table) (one : Seen) (f : TurnFrame) → Some f ≡ table one.digest → frame_eq f one.frame ≡ true → IsNoted table table one
  noted_same table one f there same = ((λ r. sym there ∙ ap (λ (g : TurnFrame). Some g) (frame_eq_true f one.frame same)), λ k h. h)

  -- one whose digest has nothing is put into it
  pub noted_new : (old new : Table) (one : Seen) → None ≡ old one.digest →
      ((d : Digest) → new d ≡ cond (digest_eq one.digest d) (Some one.frame) (old d)) → IsNoted old new one
  noted_new old new one none changed = ((λ r. changed one.digest ∙ ap (λ (b : Bool). cond b (Some one.frame) (old one.digest)) (digest_eq_same one.digest)), λ k h r. stay k (h r))
    where
      stay : (k : Seen) → old k.digest ≡ Some k.frame → new k.digest ≡ Some k.frame
      stay k h = changed k.digest ∙ go (digest_eq one.digest k.digest) refl
        where
          go : (b : Bool) → digest_eq one.digest k.digest ≡ b → cond b (Some one.frame) (old k.digest) ≡ Some k.frame
          go false e = h
          go true e = absurd (let no : None ≡ Some k.frame = none ∙ ap (λ (d : Digest). old d) (digest_eq_true one.digest k.digest e) ∙ h in cc)

  -- what a new one adds to the table is of it
  pub from_new : (old new : Table) (one : Seen) → is_commit one.frame ≡ false →
      ((d : Digest) → new d ≡ cond (digest_eq one.digest d) (Some one.frame) (old d)) → (seen : List Seen) → Has seen one → IsFrom seen old → IsFrom seen new
  from_new old new one reveal changed seen m from d f h = go (digest_eq one.digest d) refl (sym (changed d) ∙ h)
    where
      go : (b : Bool) → digest_eq one.digest d ≡ b → cond b (Some one.frame) (old d) ≡ Some f → (k : Seen) × Has seen k × (is_commit k.frame ≡ false) × (k.digest ≡ d) × (k.frame ≡ f)
      go true e g = (one, m, reveal, digest_eq_true one.digest d e, let same : one.frame ≡ f = cc in same)
      go false e g = from d f g

  -- so a clash is one of two reveals
  pub clash_of : (table : Table) (seen : List Seen) (one : Seen) → Has seen one → IsFrom seen table → IsClash table one → HaveClash seen
  clash_of table seen one m from (reveal, f, there, differ) = let k = from one.digest f there in (k.0, one, k.1, m, k.2, reveal, k.3, λ same. differ (sym k.4 ∙ same))

  -- with one more looked at
  pub noted_more : (seen : List Seen) (i : ℕ) (old new : Table) (one : Seen) → slice_get seen i ≡ Some one → IsNoted old new one →
      ((n : ℕ) (k : Seen) → n < i → slice_get seen n ≡ Some k → InTable old k) → (n : ℕ) (k : Seen) → n < i + 1 → slice_get seen n ≡ Some k → InTable new k
  noted_more seen i old new one here noted before n k lt at = elim (cases_lt n i) [
    | inl less ↦ noted.1 k (before n k less at)
    | inr ge ↦
        let place : n ≡ i = omega arith in
        let same : Some one ≡ Some k = sym here ∙ ap (slice_get seen) (sym place) ∙ at in
        let one_is : one ≡ k = cc in
        subst (InTable new) one_is noted.0
  ]

frames_differ : (f g : TurnFrame) (b : Bool) → b ≡ not (frame_eq f g) → b ≡ true → f ≡ g → ⊥
frames_differ f g b is differ same = false≢true (sym (is ∙ ap not (ap (frame_eq f) (sym same) ∙ frame_eq_same f)) ∙ differ)

pub clash_found : (table : Table) (one : Seen) (f : TurnFrame) (b : Bool) → is_commit one.frame ≡ false → Some f ≡ table one.digest →
    b ≡ not (frame_eq f one.frame) → b ≡ true → IsClash table one
clash_found table one f b reveal there is differ = (reveal, f, sym there, frames_differ f one.frame b is differ)
