-- A box of a site, at whose types a handle and its parts own what they own.
use mir.Syntax.{impl, tnil, dnil}
use mathlib.Core.List.{[]}
use denote.Signature.{Slot, plain}
use Rattle.std_alloc.proofs.BoxSteps.Form.{Bx}
use Rattle.std_heap.specs.contracts.Global as Heap
use Rattle.std_heap.specs.contracts.GlobalAllocator.TheImpl.{ghosts, dict}
use Rattle.std_heap.proofs.Global.TheLaws as heap
use Rattle.cotpad_c.specs.contracts.hosted.Hosted as Hosted
use Rattle.cotpad_c.proofs.hosted.Hosted.TheLaws as hosted
use Rattle.cotpad_c.specs.contracts.parts.Parts as Parts
use Rattle.cotpad_c.specs.contracts.handle.CotpadSite as Handle

abbrev pub E : Bx
E = record {
  row = Hosted.the_row;
  laws = hosted.the_row_laws;
  al =
      record { row = Heap.the_row; laws = heap.the_row_laws; g = ghosts; d = dict; drops = impl [] tnil dnil };
}

abbrev pub FromParts : Slot 0
FromParts = plain (λ _. Parts.the_row Hosted.the_row Heap.the_row ghosts)

abbrev pub FromSite : Slot 0
FromSite = plain (λ _. Handle.the_row)
