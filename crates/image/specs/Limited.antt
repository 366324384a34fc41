-- The limits of an image.
use Rattle.std.specs.Prelude.{◌≤◌, length}
use Rattle.layout.specs.Limits.{max_keep}
use Rattle.image.specs.Image.{max_heap, max_image_roots, Image}

-- The limits that an image keeps while it is read: those of heap and keep length from the line on that gives them.
pub record Limited (image : Image) : Type 0 where
  pub heap_most : length image.heap ≤ max_heap
  pub roots_most : length image.roots ≤ max_image_roots
  pub heap_least : 1 ≤ image.lines → 1 ≤ length image.heap
  pub keep_least : 2 ≤ image.lines → 1 ≤ image.keep
  pub keep_most : 2 ≤ image.lines → image.keep ≤ max_keep
