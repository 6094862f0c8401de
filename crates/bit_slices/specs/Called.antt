-- The lanes of each level's slices, as words of their own: what names a level does not look into those inside it.

-- what a lane of the slices of 8 bits holds: the given function itself, behind a word that no contract opens
unfoldable pub lanes_8 : {A B : Type 0} → (A → B) → A → B
lanes_8 f x = f x

-- what a lane of the slices of 16 bits holds: the given function itself, behind a word that no contract opens
unfoldable pub lanes_16 : {A B : Type 0} → (A → B) → A → B
lanes_16 f x = f x

-- what a lane of the slices of 32 bits holds: the given function itself, behind a word that no contract opens
unfoldable pub lanes_32 : {A B : Type 0} → (A → B) → A → B
lanes_32 f x = f x

-- what a lane of the slices of 64 bits holds: the given function itself, behind a word that no contract opens
unfoldable pub lanes_64 : {A B : Type 0} → (A → B) → A → B
lanes_64 f x = f x

-- what a lane of the slices of 128 bits holds: the given function itself, behind a word that no contract opens
unfoldable pub lanes_128 : {A B : Type 0} → (A → B) → A → B
lanes_128 f x = f x
