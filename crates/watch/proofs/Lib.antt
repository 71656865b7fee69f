mod CalmLaws
mod OwingLaws
mod StableLaws
