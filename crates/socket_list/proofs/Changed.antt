-- Changed: a list of which one line is changed, or all alike, is as sound as it was.
use Rattle.std.proofs.Common.{◌≡◌, ℕ, Bool, true, false, refl, sym, ap, subst, ◌∙◌, List, ◌++◌, arith, length, get_or, slice_set}
use Rattle.std.specs.Prelude.{Some, ◌&&◌, drop, map, not, take, slice_get}
use Rattle.std.proofs.lemmas.Bool.{and_parts, false≢true}
use Rattle.std.proofs.lemmas.Option.{get_or_from_slice_get}
use Rattle.std.proofs.lemmas.List.{length-map}
use Rattle.plain_lemmas.proofs.Each.{each_set}
use Rattle.plain_lemmas.proofs.Tests.{of_chosen}
use Rattle.definitions.specs.Lists.{EachIs}
use Rattle.socket_lines.specs.declared.line.Line.{Line}
use Rattle.socket_lines.specs.Lines.{doomed, is_named}
use Rattle.loop_rules.specs.Hearing.{ousted}
use Rattle.loop_rules.proofs.Alike.{Same, Alike, alike_map, differ_alike}
use Rattle.socket_list.specs.Sockets.{Sockets, IsAt, at_line}
use Rattle.socket_list.specs.Sound.{IsFit, IsSound, is_fine}
use Rattle.socket_list.proofs.Lists.{each_at, each_mapped, whole_written}
use Rattle.socket_list.proofs.Keys.{put_at}
use Rattle.socket_list.proofs.Counting.{count_alike, length_alike}
use Rattle.socket_list.proofs.OneLine.{alike_set}

-- ---- how many are fine

fine_before : (l m : Line) → Same l m → is_fine m ≡ true → is_fine l ≡ true
fine_before l m s e = let p = and_parts _ _ e in go l.is_open l.is_wrong (s.opened p.0) (right l.is_wrong m.is_wrong s.wrong p.1)
  where
    right : (b c : Bool) → (b ≡ true → c ≡ true) → not c ≡ true → b ≡ false
    right true c w n = absurd (false≢true (ap not (sym (w refl)) ∙ n))
    right false c w n = refl

    go : (o w : Bool) → o ≡ true → w ≡ false → (o && not w) ≡ true
    go true false a b = refl
    go true true a b = absurd (false≢true (sym b))
    go false w a b = absurd (false≢true a)

-- a list with such lines
pub sound_alike : (t : Sockets) (room : ℕ) (ms : List Line) → Alike t.lines ms → EachIs IsFit ms → IsSound t room → IsSound (record t { lines = ms }) room
sound_alike t room ms a f s = record {
  differ = differ_alike t.lines ms a s.differ;
  fit = f;
  accepted = s.accepted;
  fine = (let n = count_alike is_fine fine_before t.lines ms a in let old = s.fine in omega (arith, n, old));
  few = (let n = length_alike t.lines ms a in let old = s.few in omega (arith, n, old));
  room = s.room;
}

-- ---- one line

-- one line is changed at its place by a change of that kind: the list is sound, and is the one
-- that the words name
pub line_changed : (t v : Sockets) (room k socket : ℕ) (f : Line → Line) (x m : Line) → t ≡ v → IsSound t room → IsAt v k socket → x ≡ get_or t.lines k x → m ≡ f x →
    ((l : Line) → Same l (f l)) → ((l : Line) → slice_get v.lines k ≡ Some l → IsFit l → IsFit (f l)) →
    IsSound (record t { lines = slice_set t.lines k m }) room × (record t { lines = slice_set t.lines k m } ≡ at_line socket f v)
line_changed t v room k socket f x m e s at i c kind fit =
    let l = at.0 in
    let g : slice_get t.lines k ≡ Some l = ap (λ (w : Sockets). slice_get w.lines k) e ∙ at.1 in
    let it : x ≡ l = i ∙ get_or_from_slice_get t.lines k l x g in
    let made : m ≡ f l = c ∙ ap f it in (
      sound_alike t room (slice_set t.lines k m) (alike_set t.lines k l m g (subst (Same l) (sym made) (kind l)))
          (each_set IsFit t.lines k m s.fit (subst IsFit (sym made) (fit l at.1 (each_at IsFit t.lines k l s.fit g)))) s,
      ap (λ (ls : List Line). record t { lines = ls }) (ap (slice_set t.lines k) made ∙ put_at (λ y. y.socket) socket f t.lines k l s.differ g at.2) ∙ ap (at_line socket f) e,
    )

-- the line that was read at the place is the one that contracts see there
pub line_read : (t v : Sockets) (k : ℕ) (x l : Line) → t ≡ v → x ≡ get_or t.lines k x → slice_get v.lines k ≡ Some l → x ≡ l
line_read t v k x l e i g = i ∙ get_or_from_slice_get t.lines k l x (ap (λ (w : Sockets). slice_get w.lines k) e ∙ g)

pub line_fits : (t v : Sockets) (room k : ℕ) (l : Line) → t ≡ v → IsSound t room → slice_get v.lines k ≡ Some l → IsFit l
line_fits t v room k l e s g = each_at IsFit t.lines k l s.fit (ap (λ (w : Sockets). slice_get w.lines k) e ∙ g)

-- ---- all lines, written over in their list

pub all_changed : (t v : Sockets) (room : ℕ) (f : Line → Line) (ms : List Line) (n : ℕ) → t ≡ v → IsSound t room → ((l : Line) → Same l (f l)) → ((l : Line) → IsFit l → IsFit (f l)) → ms ≡ map f t.lines → n ≡ length t.lines →
    IsSound (record t { lines = take n (ms ++ drop (length ms) t.lines) }) room × (record t { lines = take n (ms ++ drop (length ms) t.lines) } ≡ record v { lines = map f v.lines })
all_changed t v room f ms n e s kind fit m k =
    let whole = whole_written t.lines ms n (ap (λ (x : List Line). length x) m ∙ length-map t.lines f) k ∙ m in (
      subst (λ (x : List Line). IsSound (record t { lines = x }) room) (sym whole) (sound_alike t room (map f t.lines) (alike_map f kind t.lines) (each_mapped IsFit f fit t.lines s.fit) s),
      ap (λ (x : List Line). record t { lines = x }) whole ∙ ap (λ (w : Sockets). record w { lines = map f w.lines }) e,
    )

pub fit_ousted : (q : ℕ) (l : Line) → IsFit l → IsFit (ousted q l)
fit_ousted q l f = of_chosen IsFit (is_named q l) (doomed l) l (record { taken = f.taken; read = f.read }) f
