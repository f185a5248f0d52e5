-- What the writers of a text and of data share.
mod Laid
