-- Moved: a socket is found by its number, then read or written, and closed where it is over.
use Rattle.std.proofs.Common.{◌≡◌, ℕ, true, false, List, ◌++◌, Some, set, get_or, refl, sym, ap, ◌∙◌, subst}
use Rattle.std.proofs.Math.Seq.{map-set_same}
use Rattle.socket_station.specs.declared.answers.SocketRead.{SocketRead}
use Rattle.socket_station.specs.declared.answers.SocketWrite.{SocketWrite}
use Rattle.machine_host.specs.Asks.{Ask}
use Rattle.station_mio.specs.declared.rows.Row.{Row}
use Rattle.station_mio.specs.Rows.{Stand, closings_at, stand_in, stand_of, stands_of, without}
use Rattle.station_mio.specs.Asking.{ReadsStand, Reads, WritesStand, Writes, after_read, after_write, is_read_over, is_write_over}

-- one is put in the place of another that stands the same
pub stands_kept : {S : Type 0} (number : S → ℕ) (rows : List (Row S)) (place : ℕ) (row d : Row S) → stand_of number row ≡ stand_of number d → d ≡ get_or rows place d → stands_of number (set rows place row) ≡ stands_of number rows
stands_kept number rows place row d same at = map-set_same (stand_of number) rows place row d (same ∙ ap (stand_of number) at)

pub reads_over : (n : ℕ) (stands : List Stand) (before middle after : List Ask) (read : SocketRead) (buf : List ℕ) (s : Stand) →
    stand_in n stands ≡ Some s → ReadsStand s before middle read buf → is_read_over read ≡ true → after ≡ middle ++ closings_at (stand_in n stands) →
    Reads (stand_in n stands) before after read buf × (without n stands ≡ after_read read n stands)
reads_over n stands before middle after read buf s e w t h =
    (subst (λ o. Reads o before after read buf) (sym e) (middle, w, rw t (h ∙ ap (λ o. middle ++ closings_at o) e)), rw t refl)

pub reads_on : (n : ℕ) (stands : List Stand) (before after : List Ask) (read : SocketRead) (buf : List ℕ) (s : Stand) →
    stand_in n stands ≡ Some s → ReadsStand s before after read buf → is_read_over read ≡ false →
    Reads (stand_in n stands) before after read buf × (stands ≡ after_read read n stands)
reads_on n stands before after read buf s e w t =
    (subst (λ o. Reads o before after read buf) (sym e) (after, w, rw t refl), rw t refl)

pub writes_over : (n : ℕ) (stands : List Stand) (before middle after : List Ask) (write : SocketWrite) (bytes : List ℕ) (s : Stand) →
    stand_in n stands ≡ Some s → WritesStand s before middle write bytes → is_write_over write ≡ true → after ≡ middle ++ closings_at (stand_in n stands) →
    Writes (stand_in n stands) before after write bytes × (without n stands ≡ after_write write n stands)
writes_over n stands before middle after write bytes s e w t h =
    (subst (λ o. Writes o before after write bytes) (sym e) (middle, w, rw t (h ∙ ap (λ o. middle ++ closings_at o) e)), rw t refl)

pub writes_on : (n : ℕ) (stands : List Stand) (before after : List Ask) (write : SocketWrite) (bytes : List ℕ) (s : Stand) →
    stand_in n stands ≡ Some s → WritesStand s before after write bytes → is_write_over write ≡ false →
    Writes (stand_in n stands) before after write bytes × (stands ≡ after_write write n stands)
writes_on n stands before after write bytes s e w t =
    (subst (λ o. Writes o before after write bytes) (sym e) (after, w, rw t refl), rw t refl)
