use Rattle.std.proofs.Common.{◌≡◌, get_or, ℕ, false, ◌<◌, ◌≤◌}
use Rattle.std.specs.Prelude.{◌&&◌, not, if◌then◌else◌}
use Rattle.dri_texheap.specs.Search.{is_old}
use Rattle.dri_texheap.proofs.marks.release.Given as goal

abbrev pub invariant-loop-i : goal.invariant-loop-i
invariant-loop-i l = record {
  used : (n : ℕ) → n < l.i → get_or l.used n false ≡ (get_or l.fn.used n false && not (is_old l.fn.used l.fn.ages l.bound n));
  ages : (n : ℕ) → n < l.i → get_or l.ages n 0 ≡ (if is_old l.fn.used l.fn.ages l.bound n then l.age else get_or l.fn.ages n 0);
  used_later : (n : ℕ) → l.i ≤ n → get_or l.used n false ≡ get_or l.fn.used n false;
  ages_later : (n : ℕ) → l.i ≤ n → get_or l.ages n 0 ≡ get_or l.fn.ages n 0;
}
