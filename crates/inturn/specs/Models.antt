-- What the types of this crate stand for.
use Rattle.std.specs.Prelude.{List}
use Rattle.parts.specs.Views.{BroadcastView}
use Rattle.parts.specs.Shown.{shown}
use Rattle.parts.specs.declared.broadcast.Broadcast.{Ghosts as Broadcasts}
use Rattle.inturn.specs.declared.post.Post.{Post}
use Rattle.inturn.specs.declared.layer.InTurn.{InTurn}
use Rattle.inturn.specs.Layers.{Layered, layered, shown_in_turn, MadeInTurn}

-- A layer stands for the state below and its table.
abbrev pub layer_of : {X S : Type 0} → (X → S) → InTurn X → Layered S
layer_of state t = layered (state t.lower) t.table

-- The accepted posts of a layer, the earliest first.
abbrev pub posted_in : {X : Type 0} → InTurn X → List Post
posted_in t = t.table

module _ {X : Type 0} (b : Broadcasts X) where
  -- Made by `new` and the calls.
  abbrev pub Made : InTurn X → Type 0
  Made t = MadeInTurn b.made b.poster (layer_of b.state t)

  -- What the broadcast below shows, and what the layer shows.
  abbrev pub view_below : InTurn X → BroadcastView
  view_below t = shown b (layer_of b.state t).below

  abbrev pub view_in_turn : InTurn X → BroadcastView
  view_in_turn t = shown_in_turn (posted_in t) (view_below t)
