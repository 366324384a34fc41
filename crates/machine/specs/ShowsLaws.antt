-- The list in its lent words, while objects are taken off it.
use Rattle.std.specs.Prelude.{ℕ, ◌*◌, ◌/◌, ◌≤◌, ◌<◌, ◌≡◌, List, length}
use Rattle.std.proofs.Common.{sym, ap, ◌∙◌, arith}
use Rattle.words.specs.Header.{size_at}
use Rattle.words.specs.Map.{set_bit}
use Rattle.layout.specs.Limits.{list_words}
use Rattle.runs.specs.Runs.{free_list}
use Rattle.runs.specs.Lists.{In, cut}
use Rattle.runs.proofs.FreeListLaws.{list_ordered, list_fits, list_cut}
use Rattle.freelist.specs.Records.{records}
use Rattle.freelist.specs.Search.{Sorted}
use Rattle.freelist.specs.SearchLaws.{ordered_sorted}
use Rattle.split.specs.Relisted.{relisted}
use Rattle.split.specs.RelistedLaws.{length-shown, records_shown, relisted_shown}
use Rattle.machine.specs.Machine.{Shows}

module _ {heap : List ℕ} {t : ℕ} {map list : List ℕ} {n : ℕ} (g : Shows heap t map list n) where
  -- The records read back are the free list.
  pub shows_records : records n list ≡ free_list t heap map
  shows_records = rw (g.count, g.words) (records_shown (list_words (length heap) t) (free_list t heap map))

  module _ (keeps : 1 ≤ t) where
    -- The buffer has the needed length.
    shows_length : length list ≡ list_words (length heap) t
    shows_length = rw g.words (length-shown (list_words (length heap) t) (free_list t heap map) (list_fits t heap map keeps))

    -- The records lie in the buffer.
    pub shows_room : 2 * n ≤ length list
    shows_room = omega (arith, shows_length, g.count, list_fits t heap map keeps)

    -- Each ends below the start of those behind it.
    pub shows_sorted : Sorted (records n list)
    shows_sorted = rw shows_records (ordered_sorted (omega arith) (list_ordered t heap map keeps))

    -- The object at r, of s words, is taken off record j, which holds it.
    module _ {r s j : ℕ} (low : 0 < r) (high : r < length heap) (here : r / 32 < length map) (size : s ≡ size_at heap r) (some : 1 ≤ s) (i : In (records n list) r s j) where
      -- What is left is the free list with the object marked.
      left_free : cut t r s (records n list) j ≡ free_list t heap (set_bit map r)
      left_free =
          rw (shows_records, size)
          (sym (list_cut t heap map keeps r j low high here (rw size at some) (rw (shows_records, size) at i)))

      -- It fits in the buffer.
      pub shows_fits : 2 * length (cut t r s (records n list) j) ≤ length list
      shows_fits = rw (left_free, shows_length) (list_fits t heap (set_bit map r) keeps)

      -- The buffer shows it.
      pub shows_taken : {n' : ℕ} {list' : List ℕ} → n' ≡ length (cut t r s (records n list) j) → list' ≡ relisted n (cut t r s (records n list) j) list → Shows heap t (set_bit map r) list' n'
      shows_taken en el = record {
        count = en ∙ ap length left_free;
        words = el ∙ rw (left_free, g.count, g.words) (relisted_shown (list_words (length heap) t) (free_list t heap map) (free_list t heap (set_bit map r)) (list_fits t heap map keeps) (list_fits t heap (set_bit map r) keeps));
      }
